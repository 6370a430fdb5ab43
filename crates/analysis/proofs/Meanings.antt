-- Corner rules of one meaning give the same records, where all points lie within ±16,383.
use Rattle.std.proofs.Common.{◌≡◌, ℕ, zero, suc, ◌+◌, Bool, List, [], ◌∷◌, length, get_or, ℤ, refl, ap, ◌∙◌, arith}
use Rattle.std.specs.List.{AllByRecursion}
use Rattle.std.proofs.lemmas.Int.{ints}
use Rattle.outline.specs.declared.points.DrawnPoint.{DrawnPoint}
use Rattle.outline.specs.Corners.{Signed32, SameMeaning}
use Rattle.walk.specs.declared.marks.Mark.{Mark}
use Rattle.walk.specs.Steps.{origin, vector}
use Rattle.walk.specs.Marks.{blank}
use Rattle.analysis.specs.declared.verdicts.Verdict.{Verdict}
use Rattle.analysis.specs.Passes.{passed, flat_at, judged, applied, checked_at, checked}
use Rattle.analysis.specs.Records.{marks_of, records, analysed}
use Rattle.analysis.specs.Outlines.{Contours, Small, outline_records}

-- past the end a contour reads the origin, which is small too
small_at : (ps : List DrawnPoint) (i : ℕ) → AllByRecursion Small ps → Small (get_or ps i origin)
small_at [] i h = (omega arith, omega arith)
small_at (p ∷ ps) zero h = h.0
small_at (p ∷ ps) (suc i) h = small_at ps i h.1

vector-fits : (ps : List DrawnPoint) (i j : ℕ) → AllByRecursion Small ps → Signed32 (vector ps i j).dx × Signed32 (vector ps i j).dy
vector-fits ps i j h =
    let p = small_at ps i h in
    let q = small_at ps j h in
    ((omega (arith, ints), omega (arith, ints)), (omega (arith, ints), omega (arith, ints)))

-- passes whose steps agree
passed-same : (f g : ℕ → List Mark → List Mark) → ((i : ℕ) (ms : List Mark) → f i ms ≡ g i ms) → (n : ℕ) (ms : List Mark) → passed f n ms ≡ passed g n ms
unfolding passed
passed-same f g e zero ms = refl
passed-same f g e (suc n) ms = e n (passed f n ms) ∙ ap (g n) (passed-same f g e n ms)

module _ (F G : ℤ → ℤ → ℤ → ℤ → Bool) (one : SameMeaning F G) where
  module _ (ps : List DrawnPoint) (small : AllByRecursion Small ps) where
    -- a corner of four of the contour's points
    flat-same : (a b c d : ℕ) → flat_at F (vector ps a b) (vector ps c d) ≡ flat_at G (vector ps a b) (vector ps c d)
    flat-same a b c d =
        let in' = vector-fits ps a b small in
        let out = vector-fits ps c d small in
        one _ _ _ _ in'.0 in'.1 out.0 out.1

    judged-same : (i : ℕ) (m : Mark) → judged F ps i m ≡ judged G ps i m
    judged-same i m = simp (flat-same m.v i i m.u)

    checked_at-same : (i : ℕ) (ms : List Mark) → checked_at F ps i ms ≡ checked_at G ps i ms
    unfolding checked_at
    checked_at-same i ms = ap (λ (v : Verdict). applied v i (get_or ms i blank) ms) (judged-same i (get_or ms i blank))

    checked-same : (ms : List Mark) → checked F ps ms ≡ checked G ps ms
    unfolding checked
    checked-same ms = passed-same (checked_at F ps) (checked_at G ps) checked_at-same (length ps) ms

  pub analysed-same : (N b : ℕ) (ps : List DrawnPoint) → AllByRecursion Small ps → analysed F N b ps ≡ analysed G N b ps
  unfolding analysed marks_of
  analysed-same N b ps small = ap (records N b ps) (checked-same ps small _)

  pub outline_records-same : (N b : ℕ) (cs : Contours) → AllByRecursion (AllByRecursion Small) cs → outline_records F N b cs ≡ outline_records G N b cs
  unfolding outline_records
  outline_records-same N b [] small = refl
  outline_records-same N b (ps ∷ cs) small =
      let first = analysed-same N b ps small.0 in
      let rest = outline_records-same N (b + length ps) cs small.1 in
      cc
