-- The area that contours enclose, twice, with its sign (FT_Outline_Get_Orientation).
use Rattle.std.specs.Prelude.{◌-◌, cond, List, [], ◌∷◌, length, ℤ, pos, ◌+ℤ◌, ◌-ℤ◌, ◌*ℤ◌, Some, None, Option, int_lt, slice_index_or}
use Rattle.outline.specs.declared.orientations.Orientation.{Orientation}
use Rattle.outline.specs.declared.orientations.Orientation.TheVariants.{Clockwise, CounterClockwise}
use Rattle.outline.specs.declared.points.DrawnPoint.{DrawnPoint}
use Rattle.walk.specs.Steps.{origin}

-- (y - y') (x + x'), for a point x, y and its predecessor x', y'
abbrev pub term : ℤ → ℤ → ℤ → ℤ → ℤ
term x' y' x y = (y -ℤ y') *ℤ (x +ℤ x')

-- the terms of points that follow the point x', y'
unfoldable pub terms : ℤ → ℤ → List DrawnPoint → ℤ
terms x' y' [] = pos 0
terms x' y' (p ∷ ps) = term x' y' p.x p.y +ℤ terms p.x p.y ps

-- the last point of a contour
abbrev pub last_of : List DrawnPoint → DrawnPoint
last_of ps = slice_index_or ps (length ps - 1) origin

-- the terms of a contour, whose first point follows its last
abbrev pub contour_area : List DrawnPoint → ℤ
contour_area ps = terms (last_of ps).x (last_of ps).y ps

-- the terms of all contours
unfoldable pub total_area : List (List DrawnPoint) → ℤ
total_area [] = pos 0
total_area (ps ∷ cs) = contour_area ps +ℤ total_area cs

-- counter-clockwise (y upwards) where the sum is positive, clockwise where it is negative
abbrev pub orientation_of : ℤ → Option Orientation
orientation_of a = cond (int_lt (pos 0) a) (Some CounterClockwise) (cond (int_lt a (pos 0)) (Some Clockwise) None)
