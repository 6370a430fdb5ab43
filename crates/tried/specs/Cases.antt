-- Tried values: each case says what the rules give.
use Rattle.std.specs.Prelude.{◌≡◌, ℕ, Bool, true, false, List, [], ◌∷◌, map, ℤ, pos, negsuc}
use Rattle.outline.specs.declared.directions.Direction.{Direction}
use Rattle.outline.specs.declared.directions.Direction.TheVariants.{None, Right, Left, Down}
use Rattle.outline.specs.declared.points.DrawnPoint.{DrawnPoint}
use Rattle.outline.specs.declared.points.PointKind.TheVariants.{OnCurve}
use Rattle.outline.specs.Corners.{flat_by, taxicab, octagonal}
use Rattle.outline.specs.Directions.{direction}
use Rattle.segments.specs.declared.measures.Dimension.{Dimension}
use Rattle.segments.specs.declared.measures.Dimension.TheVariants.{Horizontal}
use Rattle.segments.specs.declared.tables.Segment.{Segment}
use Rattle.linking.specs.Tried.{Row, run, rows}
use Rattle.reading.specs.Drawn.{contour_segments}

-- a segment's direction, its first and its last point
pub record Stretch : Type 0 where
  pub dir : Direction
  pub first : ℕ
  pub last : ℕ

abbrev pub stretch_of : Segment → Stretch
stretch_of s = record { dir = s.dir; first = s.first; last = s.last }

-- a point on the curve
abbrev pub on : ℕ → ℕ → DrawnPoint
on x y = record { x = pos x; y = pos y; kind = OnCurve }

pub data Case : Type 0 where
  -- a vector and its direction
  directed : ℤ → ℤ → Direction → Case
  -- a corner, by the vectors that come in and go out, and what Aot and Jit say of it
  cornered : ℤ → ℤ → ℤ → ℤ → Bool → Bool → Case
  -- a contour, and its segments along an axis at these units, by any corner rule
  drawn : Dimension → ℕ → List DrawnPoint → List Stretch → Case
  -- segments, and their scores, links and serifs
  linked : Row → Case

abbrev pub Holds : Case → Type 0
Holds (directed dx dy d) = direction dx dy ≡ d
Holds (cornered ix iy ox oy aot jit) = (flat_by taxicab ix iy ox oy ≡ aot) × (flat_by octagonal ix iy ox oy ≡ jit)
Holds (drawn dim units ps found) = (flat : ℤ → ℤ → ℤ → ℤ → Bool) → map stretch_of (contour_segments flat dim units ps) ≡ found
Holds (linked row) = run row ≡ row.found

-- the table, which ends with the tried tables of linking
abbrev pub cases : List Case
cases =
    directed (pos 14) (pos 1) None ∷
    directed (pos 0) (pos 0) None ∷
    directed (pos 15) (pos 1) Right ∷
    directed (negsuc 14) (pos 1) Left ∷
    cornered (pos 100) (pos 0) (pos 0) (pos 100) true false ∷
    drawn Horizontal 1000 (on 0 0 ∷ on 0 100 ∷ []) (record { dir = Down; first = 1; last = 0 } ∷ []) ∷
    map linked rows
