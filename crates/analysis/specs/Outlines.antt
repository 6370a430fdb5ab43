-- A list of contours that lie one after another in a row of points.
use Rattle.std.specs.Prelude.{◌≡◌, ℕ, ◌+◌, ◌<◌, ◌≤◌, Bool, List, [], ◌∷◌, ◌++◌, map, length, take, drop, ℤ, unsigned_abs}
use Rattle.std.specs.List.{between}
use Rattle.outline.specs.declared.contours.Contour.{Contour}
use Rattle.outline.specs.declared.points.DrawnPoint.{DrawnPoint}
use Rattle.outline.specs.declared.points.Point.{Point}
use Rattle.analysis.specs.Records.{analysed, shifted}

-- a point whose two numbers lie within ±16,383
abbrev pub Small : DrawnPoint → Type 0
Small p = (unsigned_abs p.x ≤ 16383) × (unsigned_abs p.y ≤ 16383)

-- the contours of a glyph, each a list of points
abbrev pub Contours : Type 0
Contours = List (List DrawnPoint)

-- how many points they have together
abbrev pub point_count : Contours → ℕ
point_count [] = 0
point_count (c ∷ cs) = length c + point_count cs

-- the index of the first point of contour k: as many as the contours before it have points
abbrev pub first_of : Contours → ℕ → ℕ
first_of cs k = point_count (take k cs)

-- the contours have at least one point each, and lie one after another from point b up to point n
abbrev pub Tiles : ℕ → ℕ → List Contour → Type 0
Tiles b n [] = b ≡ n
Tiles b n (c ∷ cs) = (c.first ≡ b) × (c.first < c.end) × Tiles c.end n cs

-- a contour's points
abbrev pub points_of : List DrawnPoint → Contour → List DrawnPoint
points_of ps c = between c.first c.end ps

-- each contour's points
abbrev pub cut_out : List Contour → List DrawnPoint → List (List DrawnPoint)
cut_out cs ps = map (points_of ps) cs

-- the records of contours that lie one after another from the index b on: each contour's, in order
unfoldable pub outline_records : (ℤ → ℤ → ℤ → ℤ → Bool) → ℕ → ℕ → List (List DrawnPoint) → List Point
outline_records F N b [] = []
outline_records F N b (ps ∷ cs) = analysed F N b ps ++ outline_records F N (b + length ps) cs

-- the records of one contour are written at its place; the others stay
abbrev pub replaced : (ℤ → ℤ → ℤ → ℤ → Bool) → ℕ → Contour → List DrawnPoint → List Point → List Point
replaced F N c ps out = take c.first out ++ (analysed F N c.first (points_of ps c) ++ drop c.end out)

-- each contour's records are those that it has alone, with their neighbours moved up to its place
abbrev pub StandAlone : (ℤ → ℤ → ℤ → ℤ → Bool) → ℕ → List Contour → List DrawnPoint → List Point → Type 0
StandAlone F N cs ps out =
    (before after : List Contour) (c : Contour) → cs ≡ before ++ (c ∷ after)
    → between c.first c.end out ≡ map (shifted c.first) (analysed F N 0 (points_of ps c))
