-- The direction that partners of a direction have.
use Rattle.outline.specs.declared.directions.Direction.{Direction}
use Rattle.outline.specs.declared.directions.Direction.TheVariants.{None, Right, Left, Up, Down}

-- the other way along a direction's line; None has no other
abbrev pub reverse : Direction → Direction
reverse None = None
reverse Right = Left
reverse Left = Right
reverse Up = Down
reverse Down = Up
