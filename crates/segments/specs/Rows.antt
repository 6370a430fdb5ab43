-- How a contour falls into segments, in words: rows of points, merged where they touch.
use Rattle.std.specs.Prelude.{◌≡◌, ◌<◌, ◌≤◌, Bool, true, false, not, ◌&&◌, List, [], ◌∷◌, ◌++◌, filter, ◌≢◌}
use Rattle.std.specs.List.{AllByRecursion}
use Rattle.outline.specs.Directions.{same}
use Rattle.outline.specs.declared.directions.Direction.{Direction}
use Rattle.segments.specs.declared.measures.AxisPoint.{AxisPoint}
use Rattle.segments.specs.declared.measures.Dimension.{Dimension}
use Rattle.segments.specs.Building.{Visit, visits_of}
use Rattle.segments.specs.Starts.{on, Last}
use Rattle.segments.specs.Stretches.{Taken, lone, more, first_of, last_of, both, height_of, Stretch, course_of, stretches_of}

-- the points in their order; all but the last
abbrev pub visits_in : Taken → List Visit
visits_in (lone v) = v ∷ []
visits_in (more t v) = visits_in t ++ v ∷ []

abbrev pub front : Taken → List Visit
front (lone v) = []
front (more t v) = visits_in t

abbrev pub fronts : List Taken → List Visit
fronts [] = []
fronts (t ∷ ts) = front t ++ fronts ts

-- the direction of a row
abbrev pub heading : Taken → Direction
heading t = (first_of t).point.out_dir

-- a point at which a segment may open or go on: it is on the line, and the walk does not end there
abbrev pub goes : Dimension → Visit → Bool
goes dim v = on dim v.point && not v.ends

-- a row is a part of the walk: as many points as leave in one direction on the line, and the point after them
pub record Row (dim : Dimension) (vs : List Visit) (t : Taken) : Type 0 where
  pub before : List Visit
  pub after : List Visit
  pub along : vs ≡ before ++ (visits_in t ++ after)
  pub starts : Last (λ v. v.point.out_dir ≢ heading t) before
  pub runs : AllByRecursion (λ v. (goes dim v ≡ true) × (v.point.out_dir ≡ heading t)) (front t)
  pub shuts : (same (last_of t).point.out_dir (heading t) && not (last_of t).ends) ≡ false

-- rows that are merged, one after another
pub data Group : Type 0 where
  single : Taken → Group
  then : Group → Taken → Group

-- its rows, and their points one after another
abbrev pub rows_in : Group → List Taken
rows_in (single t) = t ∷ []
rows_in (then g t) = rows_in g ++ t ∷ []

abbrev pub whole : Group → Taken
whole (single t) = t
whole (then g t) = both (whole g) t

-- each begins at the last point of what was merged before it
abbrev pub Meets : Group → Type 0
Meets (single t) = Unit {0}
Meets (then g t) = Meets g × ((last_of (whole g)).at ≡ (first_of t).at)

-- the segment of a group: its own points are the tallest row, the latest of these on a tie
pub record Merged (g : Group) (s : Stretch) : Type 0 where
  pub meets : Meets g
  pub all : s.all ≡ whole g
  pub before : List Taken
  pub after : List Taken
  pub parts : rows_in g ≡ before ++ s.own ∷ after
  pub none_taller : AllByRecursion (λ r. height_of r ≤ height_of s.own) before
  pub later_lower : AllByRecursion (λ r. height_of r < height_of s.own) after

-- so it is, group for group
abbrev pub AllMerged : List Group → List Stretch → Type 0
AllMerged [] [] = Unit {0}
AllMerged [] (s ∷ ss) = ⊥
AllMerged (g ∷ gs) [] = ⊥
AllMerged (g ∷ gs) (s ∷ ss) = Merged g s × AllMerged gs ss

-- the rows of all groups, in their order
abbrev pub all_rows : List Group → List Taken
all_rows [] = []
all_rows (g ∷ gs) = rows_in g ++ all_rows gs

-- no segment begins where the one before it ends
abbrev pub Apart : List Stretch → Type 0
Apart [] = Unit {0}
Apart (a ∷ []) = Unit {0}
Apart (a ∷ b ∷ ss) = ((last_of a.all).at ≢ (first_of b.all).at) × Apart (b ∷ ss)

-- the walk falls into rows: together they hold each point on the line once, in the walk's order;
-- rows that touch are merged into one segment, and no two segments touch
pub record Falls (dim : Dimension) (vs : List Visit) (ss : List Stretch) : Type 0 where
  pub groups : List Group
  pub rows : AllByRecursion (Row dim vs) (all_rows groups)
  pub covers : fronts (all_rows groups) ≡ filter (goes dim) vs
  pub merged : AllMerged groups ss
  pub apart : Apart ss

-- so it is with each contour of several points
abbrev pub ContoursFall : Type 0
ContoursFall = (dim : Dimension) (p q : AxisPoint) (ps : List AxisPoint) →
    Falls dim (visits_of dim (p ∷ q ∷ ps)) (stretches_of (course_of dim (p ∷ q ∷ ps)))
