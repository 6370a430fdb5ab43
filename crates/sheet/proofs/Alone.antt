-- Contours stand alone.
use Rattle.std.proofs.Common.{◌≡◌, ℕ, ◌+◌, ◌-◌, ◌<◌, ◌≤◌, Bool, List, [], ◌∷◌, map, length, get_or, take, drop, ℤ, Ok, sym, refl, ap, ◌∙◌, inl, inr, arith}
use Rattle.std.specs.List.{between, AllByRecursion}
use Rattle.std.proofs.ByRecursion.{All-get_or}
use Rattle.std.proofs.lemmas.Bool.{cases_lt}
use Rattle.outline.specs.declared.points.Point.{Point}
use Rattle.outline.specs.Corners.{SameMeaning}
use Rattle.outline.specs.Units.{near_limit}
use Rattle.analysis.specs.Outlines.{Contours, Small, first_of, outline_records}
use Rattle.analysis.specs.Records.{analysed, shifted}
use Rattle.analysis.proofs.Meanings.{analysed-same}
use Rattle.analysis.proofs.Standing.{records_of-contour}
use Rattle.segments.specs.declared.measures.Dimension.{Dimension}
use Rattle.segments.specs.declared.tables.Segment.{Segment}
use Rattle.segments.specs.Stretches.{segments_of}
use Rattle.reading.specs.Drawn.{contour_segments}
use Rattle.reading.specs.Own.{own_segments}
use Rattle.reading.proofs.Own.{own_in_reading}
use Rattle.sheet.specs.declared.sheets.Sheet.{Sheet}
use Rattle.sheet.specs.Alone.{counted_from, end_of, own_records, ContoursAlone}
use Rattle.sheet.specs.Book.{Terms, book_after}
use Rattle.sheet.specs.Sheets.{contours_of, records_of, Analysed, Readings, Fresh}
use Rattle.sheet.proofs.Runs.{follows, sheet_small}

-- counted back, what was moved up is as it was
counted_one : (f : ℕ) (p : Point) → counted_from f (shifted f p) ≡ p
counted_one f p =
    let n : f + p.next_ix - f ≡ p.next_ix = omega arith in
    let m : f + p.prev_ix - f ≡ p.prev_ix = omega arith in
    rw (n, m)

counted_back : (f : ℕ) (ps : List Point) → map (counted_from f) (map (shifted f) ps) ≡ ps
counted_back f [] = refl
counted_back f (p ∷ ps) =
    let one = counted_one f p in
    let rest = counted_back f ps in
    cc

-- a contour's records among all are those that it has alone
own-analysed : (F : ℤ → ℤ → ℤ → ℤ → Bool) (N : ℕ) (cs : Contours) (k : ℕ) → k < length cs
    → own_records cs k (outline_records F N 0 cs) ≡ analysed F N 0 (get_or cs k [])
own-analysed F N cs k h =
    let long : end_of cs k - first_of cs k ≡ length (get_or cs k []) = omega arith in
    let part : between (first_of cs k) (end_of cs k) (outline_records F N 0 cs) ≡ map (shifted (first_of cs k)) (analysed F N 0 (get_or cs k [])) =
    ap (λ (n : ℕ). take n (drop (first_of cs k) (outline_records F N 0 cs))) long ∙ records_of-contour F N cs k h in
    ap (map (counted_from (first_of cs k))) part ∙ counted_back (first_of cs k) (analysed F N 0 (get_or cs k []))

module _ {R : Type 0} (flat : R → ℤ → ℤ → ℤ → ℤ → Bool) (s : Sheet R) (cs : Contours) (h : Analysed flat s) (e : contours_of s ≡ cs) (k : ℕ) (l : k < length cs) where
  own-points : own_records cs k (records_of s) ≡ analysed (flat s.rule) (near_limit s.settings.units) 0 (get_or cs k [])
  own-points = rw (h, e) (own-analysed (flat s.rule) (near_limit s.settings.units) cs k l)

  long_enough : (dim : Dimension) (a a' : List Segment) (n : ℕ) → Readings flat s dim a (Ok n) a' → 1001 ≤ length a
  long_enough dim a a' n d =
      elim (cases_lt (length a) 1001) [
        | inl short ↦ absurd (let f = (d.short short).0 in let z : ◌≡◌ {A = ℕ} 0 1 = cc in omega arith)
        | inr long ↦ long
      ]

  own-built : (dim : Dimension) (a a' : List Segment) (n : ℕ) → Readings flat s dim a (Ok n) a'
      → own_segments (first_of cs k) (end_of cs k) n a' ≡ contour_segments (flat s.rule) dim s.settings.units (get_or cs k [])
  own-built dim a a' n d =
      let reads = rw e at (d.reads h) in
      ap (own_segments (first_of cs k) (end_of cs k) n) reads.leaves
      ∙ own_in_reading (flat s.rule) s.settings.units s.settings.width dim cs k n a l (long_enough dim a a' n d) (sym reads.answers)

  small_one : AllByRecursion Small (get_or cs k [])
  small_one = All-get_or (AllByRecursion Small) cs k [] l (rw e at (sheet_small s))

pub contours-alone : {R Q : Type 0} (flat : R → ℤ → ℤ → ℤ → ℤ → Bool) (flat' : Q → ℤ → ℤ → ℤ → ℤ → Bool) (s : Sheet R) → Fresh flat s → ContoursAlone flat flat' s
contours-alone flat flat' f fresh f' fresh' units meaning qs rs as' bs s t p q k l hk hl c =
    let a = follows flat p fresh.analysed in
    let b = follows flat' q fresh'.analysed in
    let cs = book_after [] qs in
    let ds = book_after [] rs in
    let drawn : contours_of s ≡ book_after [] qs = a.draws ∙ ap (λ (x : Contours). book_after x qs) fresh.empty in
    let drawn' : contours_of t ≡ book_after [] rs = b.draws ∙ ap (λ (x : Contours). book_after x rs) fresh'.empty in
    let u : s.settings.units ≡ t.settings.units = ap (λ (w : Terms). w.units) a.keeps ∙ (units ∙ sym (ap (λ (w : Terms). w.units) b.keeps)) in
    let m : SameMeaning (flat s.rule) (flat' t.rule) =
    rw (ap (λ (w : Terms). w.flat) a.keeps, ap (λ (w : Terms). w.flat) b.keeps) meaning in
    let one : analysed (flat s.rule) (near_limit s.settings.units) 0 (get_or (book_after [] qs) k []) ≡ analysed (flat' t.rule) (near_limit t.settings.units) 0 (get_or (book_after [] rs) l []) =
    rw (u, ← c) (analysed-same (flat s.rule) (flat' t.rule) m (near_limit t.settings.units) 0 (get_or cs k []) (small_one flat s cs a.analysed drawn k hk)) in
    record {
      points = own-points flat s cs a.analysed drawn k hk ∙ (one ∙ sym (own-points flat' t ds b.analysed drawn' l hl));
      segments = λ dim x x' y y' n o d e.
          own-built flat s cs a.analysed drawn k hk dim x x' n d
          ∙ (ap (λ (w : ℕ). segments_of dim w (analysed (flat s.rule) (near_limit s.settings.units) 0 (get_or cs k []))) u
          ∙ (ap (segments_of dim t.settings.units) one ∙ sym (own-built flat' t ds b.analysed drawn' l hl dim y y' o e)));
    }
