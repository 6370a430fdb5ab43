-- Points that a sheet may hold.
use Rattle.std.specs.Prelude.{Bool, true, ◌&&◌, List, [], ◌∷◌}
use Rattle.outline.specs.declared.points.DrawnPoint.{DrawnPoint}
use Rattle.unscaled.specs.Placements.{in_range}

-- x and y lie within ±16,383
abbrev pub is_inside : DrawnPoint → Bool
is_inside p = in_range p.x && in_range p.y

-- so do those of every point
abbrev pub all_inside : List DrawnPoint → Bool
all_inside [] = true
all_inside (p ∷ ps) = is_inside p && all_inside ps
