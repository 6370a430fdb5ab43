-- What a segment is, in words: relations between it and the points that it took in.
use Rattle.std.specs.Prelude.{◌≡◌, ℕ, ◌/◌, Bool, not, ◌⊎◌, List, [], ◌∷◌, ◌++◌, map, ℤ, pos, ◌+ℤ◌, ◌-ℤ◌, ◌≤ℤ◌, ◌<ℤ◌, Decides, filter, ◌≢◌}
use Rattle.std.specs.Int.Signed.{shr_z}
use Rattle.std.specs.List.{ContainsAt, AllByRecursion}
use Rattle.outline.specs.declared.points.PointKind.{PointKind}
use Rattle.outline.specs.declared.points.PointKind.TheVariants.{Control}
use Rattle.segments.specs.declared.measures.AxisPoint.{AxisPoint}
use Rattle.segments.specs.declared.tables.Segment.{Segment}
use Rattle.segments.specs.Segments.{segment_of}
use Rattle.segments.specs.States.{control}
use Rattle.segments.specs.Stretches.{Taken, lone, more, Stretch, summary}

-- the points in their order, their positions and coordinates, and the coordinates of those on the curve
abbrev pub points_in : Taken → List AxisPoint
points_in (lone v) = v.point ∷ []
points_in (more t v) = points_in t ++ v.point ∷ []

abbrev pub positions : List AxisPoint → List ℤ
positions ps = map (λ p. p.position.0) ps

abbrev pub coordinates : List AxisPoint → List ℤ
coordinates ps = map (λ p. p.coordinate.0) ps

abbrev pub on_curve : AxisPoint → Bool
on_curve p = not (control p.kind)

abbrev pub curve : List AxisPoint → List ℤ
curve ps = coordinates (filter on_curve ps)

-- one of the numbers, and none is less; none is greater
abbrev pub Least : ℤ → List ℤ → Type 0
Least m zs = ContainsAt zs m × AllByRecursion (λ z. m ≤ℤ z) zs

abbrev pub Greatest : ℤ → List ℤ → Type 0
Greatest m zs = ContainsAt zs m × AllByRecursion (λ z. z ≤ℤ m) zs

-- the first of the points that has the coordinate m is of kind k
pub record First (m : ℤ) (k : PointKind) (ps : List AxisPoint) : Type 0 where
  pub before : List AxisPoint
  pub giver : AxisPoint
  pub after : List AxisPoint
  pub parts : ps ≡ before ++ giver ∷ after
  pub none : AllByRecursion (λ q. q.coordinate.0 ≢ m) before
  pub gives : giver.coordinate.0 ≡ m
  pub kind : giver.kind ≡ k

-- any two of the numbers are less than a fourteenth of the em apart
abbrev pub Close : ℕ → List ℤ → Type 0
Close units zs = AllByRecursion (λ y. AllByRecursion (λ z. (z -ℤ y) <ℤ pos (units / 14)) zs) zs

-- position and delta are by the least and the greatest position of all points; least and greatest coordinate, height and
-- roundness are by its own points
pub record Told (units : ℕ) (own all : List AxisPoint) (s : Segment) : Type 0 where
  pub least : ℤ
  pub greatest : ℤ
  pub left : Least least (positions all)
  pub right : Greatest greatest (positions all)
  pub middle : s.pos.0 ≡ shr_z (least +ℤ greatest) 2
  pub spread : s.delta ≡ shr_z (greatest -ℤ least) 2
  pub low : Least s.min_coord.0 (coordinates own)
  pub high : Greatest s.max_coord.0 (coordinates own)
  pub tall : pos s.height ≡ s.max_coord.0 -ℤ s.min_coord.0
  pub low_kind : PointKind
  pub high_kind : PointKind
  pub low_giver : First s.min_coord.0 low_kind own
  pub high_giver : First s.max_coord.0 high_kind own
  pub round : Decides s.round (((low_kind ≡ Control) ⊎ (high_kind ≡ Control)) × Close units (curve own))

-- so it is with each segment
abbrev pub SegmentsTold : Type 0
SegmentsTold = (units : ℕ) (s : Stretch) → Told units (points_in s.own) (points_in s.all) (segment_of units (summary 0 s))
