-- The two passes over a contour's points, in index order, after the walk (af_glyph_hints_reload).
use Rattle.std.specs.Prelude.{ℕ, zero, suc, ◌<◌, Bool, true, false, cond, not, ◌&&◌, ◌||◌, List, length, get_or, ℤ, pos, int_lt, slice_index_or}
use Rattle.outline.specs.declared.directions.Direction.{Direction}
use Rattle.outline.specs.declared.directions.Direction.TheVariants.{None}
use Rattle.outline.specs.declared.points.DrawnPoint.{DrawnPoint}
use Rattle.outline.specs.declared.points.PointKind.{PointKind}
use Rattle.outline.specs.declared.points.PointKind.TheVariants.{Control, OnCurve}
use Rattle.outline.specs.Directions.{same, opposite}
use Rattle.walk.specs.declared.steps.Step.{Step}
use Rattle.walk.specs.declared.marks.Mark.{Mark}
use Rattle.walk.specs.Steps.{origin, vector}
use Rattle.walk.specs.Marks.{blank, at, join, with_weak}
use Rattle.analysis.specs.declared.verdicts.Verdict.{Verdict}
use Rattle.analysis.specs.declared.verdicts.Verdict.TheVariants.{Keep, Weaken, Bypass}

-- the marks after the first i points of a pass whose step is f
unfoldable pub passed : (ℕ → List Mark → List Mark) → ℕ → List Mark → List Mark
passed f zero ms = ms
passed f (suc i) ms = f i (passed f i ms)

-- u and v are points of a contour of n points
abbrev pub Linked : ℕ → Mark → Type 0
Linked n m = (m.u < n) × (m.v < n)

-- the vector from point v to point i, and the vector from there to point u
abbrev pub inward : List DrawnPoint → ℕ → Mark → Step
inward ps i m = vector ps m.v i

abbrev pub outward : List DrawnPoint → ℕ → Mark → Step
outward ps i m = vector ps i m.u

-- both directions None
abbrev pub undirected : Mark → Bool
undirected m = same m.in_dir None && same m.out_dir None

-- point i turns weak
abbrev pub weaken : ℕ → List Mark → List Mark
weaken i ms = at i (with_weak true) ms

-- point i turns weak, and its point v takes its u, its point u its v
abbrev pub bypass : ℕ → Mark → List Mark → List Mark
bypass i m ms = join m.v m.u (weaken i ms)

-- both negative or both not
abbrev pub same_sign : ℤ → ℤ → Bool
same_sign a b = cond (int_lt a (pos 0)) (int_lt b (pos 0)) (not (int_lt b (pos 0)))

-- x of both and y of both have the same sign
abbrev pub same_quadrant : Step → Step → Bool
same_quadrant s t = same_sign s.dx t.dx && same_sign s.dy t.dy

-- First pass: points not weak with both directions None
abbrev pub is_open : Mark → Bool
is_open m = not m.weak && undirected m

-- whose two vectors lie in one quadrant.
abbrev pub is_straight : List DrawnPoint → ℕ → Mark → Bool
is_straight ps i m = is_open m && same_quadrant (inward ps i m) (outward ps i m)

-- the first pass at point i
unfoldable pub simplified_at : List DrawnPoint → ℕ → List Mark → List Mark
simplified_at ps i ms = cond (is_straight ps i (slice_index_or ms i blank)) (bypass i (slice_index_or ms i blank) ms) ms

-- the first pass over all points
unfoldable pub simplified : List DrawnPoint → List Mark → List Mark
simplified ps ms = passed (simplified_at ps) (length ps) ms

-- the point lies on the curve
abbrev pub on_curve : PointKind → Bool
on_curve Control = false
on_curve OnCurve = true

-- Second pass: a point with directions turns weak where they are equal or opposite.
abbrev pub judged_directed : Direction → Direction → Verdict
judged_directed d e = cond (same d e || opposite d e) Weaken Keep

-- the corner rule F, put to the vectors that come in and go out
abbrev pub flat_at : (ℤ → ℤ → ℤ → ℤ → Bool) → Step → Step → Bool
flat_at F s t = F s.dx s.dy t.dx t.dy

-- A point with no directions is passed by where its corner is flat.
abbrev pub judged_corner : (ℤ → ℤ → ℤ → ℤ → Bool) → List DrawnPoint → ℕ → Mark → Verdict
judged_corner F ps i m = cond (flat_at F (inward ps i m) (outward ps i m)) Bypass Keep

-- A control turns weak, and nothing else is done for it.
abbrev pub judged : (ℤ → ℤ → ℤ → ℤ → Bool) → List DrawnPoint → ℕ → Mark → Verdict
judged F ps i m =
    cond m.weak Keep
    (cond (not (on_curve (get_or ps i origin).kind)) Weaken
    (cond (undirected m) (judged_corner F ps i m)
    (judged_directed m.in_dir m.out_dir)))

-- the marks after a verdict on point i, whose mark is m
abbrev pub applied : Verdict → ℕ → Mark → List Mark → List Mark
applied Keep i m ms = ms
applied Weaken i m ms = weaken i ms
applied Bypass i m ms = bypass i m ms

-- the second pass at point i
unfoldable pub checked_at : (ℤ → ℤ → ℤ → ℤ → Bool) → List DrawnPoint → ℕ → List Mark → List Mark
checked_at F ps i ms = applied (judged F ps i (slice_index_or ms i blank)) i (slice_index_or ms i blank) ms

-- the second pass over all points
unfoldable pub checked : (ℤ → ℤ → ℤ → ℤ → Bool) → List DrawnPoint → List Mark → List Mark
checked F ps ms = passed (checked_at F ps) (length ps) ms
