-- The segments of drawn contours, before linking: a contour's depend on no other contour.
use Rattle.std.specs.Prelude.{ℕ, ◌+◌, Bool, false, ◌||◌, List, [], ◌∷◌, ◌++◌, map, length, ℤ, nat_lt}
use Rattle.outline.specs.declared.points.DrawnPoint.{DrawnPoint}
use Rattle.outline.specs.Units.{near_limit}
use Rattle.analysis.specs.Outlines.{Contours}
use Rattle.analysis.specs.Records.{analysed}
use Rattle.segments.specs.declared.measures.Dimension.{Dimension}
use Rattle.segments.specs.declared.tables.Segment.{Segment}
use Rattle.segments.specs.Stretches.{segments_of, most_of, shifted}

-- over the meaning of a corner rule
module _ (flat : ℤ → ℤ → ℤ → ℤ → Bool) (dim : Dimension) (units : ℕ) where
  -- a contour's unlinked segments, indices counted from its start: its points, the units and the corner rule decide them
  abbrev pub contour_segments : List DrawnPoint → List Segment
  contour_segments c = segments_of dim units (analysed flat (near_limit units) 0 c)

  -- those of contour after contour, from the index b on, each moved up to its contour's place
  abbrev pub drawn_segments : ℕ → Contours → List Segment
  drawn_segments b [] = []
  drawn_segments b (c ∷ cs) = map (shifted b) (contour_segments c) ++ drawn_segments (b + length c) cs

  -- whether a segment opens while more than 1,000 are held, with h held before
  abbrev pub crowded : ℕ → Contours → Bool
  crowded h [] = false
  crowded h (c ∷ cs) =
      nat_lt 1001 (h + most_of dim (analysed flat (near_limit units) 0 c)) || crowded (h + length (contour_segments c)) cs
