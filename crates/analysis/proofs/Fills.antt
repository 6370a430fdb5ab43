-- Records and how they are written.
use Rattle.std.proofs.Common.{◌≡◌, ℕ, ◌+◌, Bool, List, [], ◌∷◌, map, length, get_or, replicate, ℤ, refl, zero-add}
use Rattle.outline.specs.declared.points.DrawnPoint.{DrawnPoint}
use Rattle.walk.specs.declared.marks.Mark.{Mark}
use Rattle.outline.specs.declared.points.Point.{Point}
use Rattle.analysis.specs.Records.{record_at, records, analysed, marks_of, shifted, is_near, preceding}
use Rattle.walk.specs.Steps.{origin, following}
use Rattle.walk.specs.Marks.{blank, walked}
use Rattle.analysis.specs.Passes.{simplified, checked}

-- marks that are filled with what a mark is by default
pub cleared : (n m : ℕ) (d : Mark) (xs : List Mark) → xs ≡ replicate m d → m ≡ n → d ≡ blank → xs ≡ replicate n blank
cleared n m d xs a b e = cc

shift_one : (N b : ℕ) (ps : List DrawnPoint) (ms : List Mark) (i : ℕ) → record_at N b ps ms i ≡ shifted b (record_at N 0 ps ms i)
unfolding record_at
shift_one N b ps ms i = simp zero-add

shift_all : (N b : ℕ) (ps : List DrawnPoint) (ms : List Mark) (is : List ℕ)
    → map (record_at N b ps ms) is ≡ map (shifted b) (map (record_at N 0 ps ms) is)
shift_all N b ps ms [] = refl
shift_all N b ps ms (i ∷ is) =
    let one = shift_one N b ps ms i in
    let rest = shift_all N b ps ms is in
    cc

pub alone : (F : ℤ → ℤ → ℤ → ℤ → Bool) (N b : ℕ) (ps : List DrawnPoint) → analysed F N b ps ≡ map (shifted b) (analysed F N 0 ps)
unfolding analysed records
alone F N b ps = shift_all N b ps (marks_of F N ps) _

-- a record, field by field
pub record_is : (N b : ℕ) (ps : List DrawnPoint) (ms : List Mark) (i : ℕ) (x y : ℤ) (n : Bool) (next prev next-ix prev-ix : ℕ)
    → x ≡ (get_or ps i origin).x → y ≡ (get_or ps i origin).y → n ≡ is_near N ps i
    → next ≡ following (length ps) i → prev ≡ preceding (length ps) i → next-ix ≡ b + next → prev-ix ≡ b + prev
    → record {
      flags = record { kind = (get_or ps i origin).kind; near = n; weak_interpolation = (get_or ms i blank).weak };
      x = x;
      y = y;
      in_dir = (get_or ms i blank).in_dir;
      out_dir = (get_or ms i blank).out_dir;
      next_ix = next-ix;
      prev_ix = prev-ix;
    } ≡ record_at N b ps ms i
unfolding record_at
record_is N b ps ms i x y n next prev next-ix prev-ix e₁ e₂ e₃ e₄ e₅ e₆ e₇ = simp (e₆, e₇, e₁, e₂, e₃, e₄, e₅)

-- the parts of a contour's analysis, one after another
pub whole : (F : ℤ → ℤ → ℤ → ℤ → Bool) (N N' b n : ℕ) (ps : List DrawnPoint) (m₀ m₁ m₂ m₃ : List Mark) (out : List Point)
    → N' ≡ N → n ≡ length ps → m₀ ≡ replicate n blank → m₁ ≡ walked N ps m₀ → m₂ ≡ simplified ps m₁ → m₃ ≡ checked F ps m₂ → out ≡ records N' b ps m₃
    → out ≡ analysed F N b ps
unfolding analysed marks_of
whole F N N' b n ps m₀ m₁ m₂ m₃ out d e e₀ e₁ e₂ e₃ e₄ = cc
