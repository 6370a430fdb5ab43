-- Tried values.
use Rattle.std.specs.Prelude.{◌≡◌, ℕ, false, List, [], ◌∷◌, pos, None}
use Rattle.outline.specs.declared.directions.Direction.{Direction}
use Rattle.outline.specs.declared.directions.Direction.TheVariants.{Right, Left, Up, Down}
use Rattle.outline.specs.declared.points.Point.{Point}
use Rattle.outline.specs.declared.points.PointKind.TheVariants.{OnCurve}
use Rattle.segments.specs.declared.measures.Dimension.TheVariants.{Horizontal, Vertical}
use Rattle.segments.specs.declared.tables.Segment.{Segment}
use Rattle.segments.specs.Stretches.{segments_of}

-- a point on the curve, where it leads to and where it comes from
abbrev pub corner : ℕ → ℕ → Direction → Direction → Point
corner x y inward outward = record {
  flags = record { kind = OnCurve; near = false; weak_interpolation = false };
  x = pos x;
  y = pos y;
  in_dir = inward;
  out_dir = outward;
  next_ix = 0;
  prev_ix = 0;
}

-- a straight segment
abbrev pub straight : Direction → ℕ → ℕ → ℕ → ℕ → ℕ → ℕ → Segment
straight dir first last at low high height = record {
  dir = dir;
  pos = record { 0 = pos at };
  delta = pos 0;
  min_coord = record { 0 = pos low };
  max_coord = record { 0 = pos high };
  height = height;
  round = false;
  score = 32000;
  link = None;
  serif = None;
  first = first;
  last = last;
}

-- up and down again: two rows that touch, and of equal height, so that the later survives
abbrev pub SpikeTried : Type 0
SpikeTried = segments_of Horizontal 1000 (corner 0 0 Down Up ∷ corner 0 100 Up Down ∷ []) ≡ straight Down 1 0 0 0 100 100 ∷ []

-- a rectangle from (100, 0) to (200, 700): two sides on each axis
abbrev pub box : List Point
box = corner 100 0 Down Right ∷ corner 200 0 Right Up ∷ corner 200 700 Up Left ∷ corner 100 700 Left Down ∷ []

abbrev pub BoxTried : Type 0
BoxTried =
    (segments_of Horizontal 1000 box ≡ straight Up 1 2 200 0 700 700 ∷ straight Down 3 0 100 0 700 700 ∷ []) ×
    (segments_of Vertical 1000 box ≡ straight Right 0 1 0 100 200 100 ∷ straight Left 2 3 700 100 200 100 ∷ [])
