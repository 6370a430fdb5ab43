-- The major direction of an axis (af_glyph_hints_reload).
use Rattle.std.specs.Prelude.{Some, None, Option}
use Rattle.outline.specs.declared.directions.Direction.{Direction}
use Rattle.outline.specs.declared.directions.Direction.TheVariants.{Right, Left, Up, Down}
use Rattle.outline.specs.declared.orientations.Orientation.{Orientation}
use Rattle.outline.specs.declared.orientations.Orientation.TheVariants.{Clockwise, CounterClockwise}
use Rattle.segments.specs.declared.measures.Dimension.{Dimension}
use Rattle.segments.specs.declared.measures.Dimension.TheVariants.{Horizontal, Vertical}

-- Down and Right for a counter-clockwise outline, otherwise Up and Left
abbrev pub major : Dimension → Option Orientation → Direction
major Horizontal (Some CounterClockwise) = Down
major Horizontal (Some Clockwise) = Up
major Horizontal None = Up
major Vertical (Some CounterClockwise) = Right
major Vertical (Some Clockwise) = Left
major Vertical None = Left
