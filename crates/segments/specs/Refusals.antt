-- When a reading is refused, in words.
use Rattle.std.specs.Prelude.{◌≡◌, ℕ, ◌+◌, ◌<◌, true, List, [], ◌∷◌, ◌++◌, map, length, Ok, Err, Result}
use Rattle.outline.specs.declared.contours.Contour.{Contour}
use Rattle.outline.specs.declared.points.Point.{Point}
use Rattle.segments.specs.declared.faults.BuildFault.{BuildFault}
use Rattle.segments.specs.declared.measures.AxisPoint.{AxisPoint}
use Rattle.segments.specs.declared.measures.Dimension.{Dimension}
use Rattle.segments.specs.Building.{Visit, visits_of}
use Rattle.segments.specs.Measures.{seen}
use Rattle.segments.specs.Readings.{points_of, all_entries}
use Rattle.segments.specs.Stretches.{went, course, stretches_of}

-- the walk opens a segment while k closed segments of its contour are held
pub record Opens (dim : Dimension) (vs : List Visit) (k : ℕ) : Type 0 where
  pub before : List Visit
  pub here : Visit
  pub after : List Visit
  pub along : vs ≡ before ++ here ∷ after
  pub opens : (went dim (course dim before).inside here).opens ≡ true
  pub held : k ≡ length (stretches_of (course dim (before ++ here ∷ [])))

-- a contour of one point opens its segment at once
abbrev pub OpensIn : Dimension → List AxisPoint → ℕ → Type 0
OpensIn dim [] k = ⊥
OpensIn dim (p ∷ []) k = k ≡ 0
OpensIn dim (p ∷ q ∷ ps) k = Opens dim (visits_of dim (p ∷ q ∷ ps)) k

-- a segment opens while more than 1,000 are held, h before these contours
pub record Overfull (dim : Dimension) (units : ℕ) (ps : List Point) (h : ℕ) (cs : List Contour) : Type 0 where
  pub before : List Contour
  pub here : Contour
  pub after : List Contour
  pub parts : cs ≡ before ++ here ∷ after
  pub held : ℕ
  pub opens : OpensIn dim (map (seen dim) (points_of ps here)) held
  pub full : 1000 < h + length (all_entries dim units ps before) + held

-- a reading is refused exactly there
abbrev pub Justly : Dimension → ℕ → List Point → List Contour → Result ℕ BuildFault → Type 0
Justly dim units ps cs (Ok n) = Overfull dim units ps 0 cs → ⊥
Justly dim units ps cs (Err e) = Overfull dim units ps 0 cs
