-- Points as they are read along an axis; positions among themselves, and coordinates among themselves.
use Rattle.std.specs.Prelude.{ℕ, Bool, ℤ, ◌+ℤ◌, ◌-ℤ◌, ◌==◌, int_lt, unsigned_abs}
use Rattle.std.specs.Int.Signed.{shr_z}
use Rattle.std.specs.Int.{int_min, int_max}
use Rattle.outline.specs.declared.directions.Direction.{Direction}
use Rattle.outline.specs.declared.directions.Direction.TheVariants.{Right, Up}
use Rattle.outline.specs.declared.points.Point.{Point}
use Rattle.outline.specs.Directions.{line}
use Rattle.segments.specs.declared.measures.AxisPoint.{AxisPoint}
use Rattle.segments.specs.declared.measures.Coordinate.{Coordinate}
use Rattle.segments.specs.declared.measures.Dimension.{Dimension}
use Rattle.segments.specs.declared.measures.Dimension.TheVariants.{Horizontal, Vertical}
use Rattle.segments.specs.declared.measures.Position.{Position}

-- the line of an axis: upright on the Horizontal axis, level on the Vertical
abbrev pub line_of : Dimension → ℕ
line_of Horizontal = line Up
line_of Vertical = line Right

-- whether a direction lies on the axis line: Up or Down; Right or Left
abbrev pub on_line : Dimension → Direction → Bool
on_line dim d = line d == line_of dim

-- on the Horizontal axis x is the position and y the coordinate, on the Vertical they change roles (a point's u and v)
abbrev pub across : Dimension → Point → Position
across Horizontal p = record { 0 = p.x }
across Vertical p = record { 0 = p.y }

abbrev pub along : Dimension → Point → Coordinate
along Horizontal p = record { 0 = p.y }
along Vertical p = record { 0 = p.x }

-- what a reading asks of a point's record
abbrev pub seen : Dimension → Point → AxisPoint
seen dim p = record { position = across dim p; coordinate = along dim p; kind = p.flags.kind; out_dir = p.out_dir }

-- the lesser and the greater of two positions
abbrev pub lesser : Position → Position → Position
lesser a b = record { 0 = int_min a.0 b.0 }

abbrev pub greater : Position → Position → Position
greater a b = record { 0 = int_max a.0 b.0 }

-- half their sum, rounded down
abbrev pub middle : Position → Position → Position
middle a b = record { 0 = shr_z (a.0 +ℤ b.0) 2 }

-- half of how far the second lies above the first, rounded down
abbrev pub half_gap : Position → Position → ℤ
half_gap a b = shr_z (b.0 -ℤ a.0) 2

-- whether the first of two coordinates is the lower
abbrev pub before : Coordinate → Coordinate → Bool
before a b = int_lt a.0 b.0

-- the lesser and the greater of two coordinates
abbrev pub nearer : Coordinate → Coordinate → Coordinate
nearer a b = record { 0 = int_min a.0 b.0 }

abbrev pub farther : Coordinate → Coordinate → Coordinate
farther a b = record { 0 = int_max a.0 b.0 }

-- how far apart they are
abbrev pub gap : Coordinate → Coordinate → ℕ
gap a b = unsigned_abs (b.0 -ℤ a.0)
