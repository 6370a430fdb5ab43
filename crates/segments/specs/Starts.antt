-- Where the walk round a contour begins.
use Rattle.std.specs.Prelude.{◌≡◌, ℕ, ◌+◌, ◌<◌, Bool, true, false, cond, ◌&&◌, List, [], ◌∷◌, length, take, drop, Option, MatchBool, MatchOption, slice_index_or}
use Rattle.std.specs.List.{AllByRecursion}
use Rattle.outline.specs.declared.points.Point.{Point}
use Rattle.segments.specs.declared.measures.AxisPoint.{AxisPoint}
use Rattle.segments.specs.declared.measures.Dimension.{Dimension}
use Rattle.segments.specs.Measures.{on_line}

-- whether a point is left along the axis line
abbrev pub on : Dimension → AxisPoint → Bool
on dim p = on_line dim p.out_dir

-- whether all points are, the first is, the last is
abbrev pub all_on : Dimension → List AxisPoint → Bool
all_on dim [] = true
all_on dim (p ∷ ps) = on dim p && all_on dim ps

abbrev pub head_on : Dimension → List AxisPoint → Bool
head_on dim [] = false
head_on dim (p ∷ ps) = on dim p

abbrev pub last_on : Dimension → List AxisPoint → Bool
last_on dim [] = false
last_on dim (p ∷ []) = on dim p
last_on dim (p ∷ q ∷ ps) = last_on dim (q ∷ ps)

-- the place of the last point that is not left along the line, or none: all those after it are
abbrev pub IsLastOff : Dimension → List Point → Option ℕ → Type 0
IsLastOff dim ps at =
    MatchOption at
    ((k : ℕ) (d : Point) → k < length ps → on_line dim (slice_index_or ps k d).out_dir ≡ true)
    (λ i. (i < length ps) × ((d : Point) → on_line dim (slice_index_or ps i d).out_dir ≡ false)
    × ((k : ℕ) (d : Point) → i < k → k < length ps → on_line dim (slice_index_or ps k d).out_dir ≡ true))

-- the earliest place from which on all points are on the line
abbrev pub run_of : Dimension → List AxisPoint → ℕ
run_of dim [] = 0
run_of dim (p ∷ ps) = cond (all_on dim (p ∷ ps)) 0 (run_of dim ps + 1)

-- the first point; if it and its predecessor, the last point, are both on the line, the earliest point of that run
abbrev pub start_of : Dimension → List AxisPoint → ℕ
start_of dim ps = cond (head_on dim ps && last_on dim ps) (run_of dim ps) 0

-- the last of these, if there is one
abbrev pub Last : {X : Type 0} → (X → Type 0) → List X → Type 0
Last P [] = Unit {0}
Last P (x ∷ []) = P x
Last P (x ∷ y ∷ xs) = Last P (y ∷ xs)

-- in words: the walk begins at the first point, unless that and the last point are both on the line;
-- then every point from the beginning on is on the line, and the one before it, if there is one, is not
abbrev pub Begins : Dimension → List AxisPoint → ℕ → Type 0
Begins dim ps s =
    MatchBool (head_on dim ps && last_on dim ps)
    (AllByRecursion (λ p. on dim p ≡ true) (drop s ps) × Last (λ p. on dim p ≡ false) (take s ps))
    (s ≡ 0)

abbrev pub StartsTold : Type 0
StartsTold = (dim : Dimension) (ps : List AxisPoint) → Begins dim ps (start_of dim ps)
