-- The words that are printed for directions and orientations.
use Rattle.std.specs.Prelude.{ℕ, List, Some, None, codes, Option}
use Rattle.outline.specs.declared.directions.Direction.{Direction}
use Rattle.outline.specs.declared.directions.Direction.TheVariants as direction
use Rattle.outline.specs.declared.orientations.Orientation.{Orientation}
use Rattle.outline.specs.declared.orientations.Orientation.TheVariants.{Clockwise, CounterClockwise}

-- a direction
abbrev pub direction_word : Direction → List ℕ
direction_word direction.None = codes "none"
direction_word direction.Right = codes "right"
direction_word direction.Left = codes "left"
direction_word direction.Up = codes "up"
direction_word direction.Down = codes "down"

-- the sign of the area inside an outline, y upwards
abbrev pub area_word : Option Orientation → List ℕ
area_word None = codes "0"
area_word (Some CounterClockwise) = codes "+"
area_word (Some Clockwise) = codes "-"
