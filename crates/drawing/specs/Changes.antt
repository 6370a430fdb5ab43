-- The records of one contour among those of a drawing.
use Rattle.std.specs.Prelude.{ℕ, ◌+◌, Bool, List, [], ◌++◌, length, take, drop, ℤ, slice_index_or}
use Rattle.outline.specs.declared.points.Point.{Point}
use Rattle.analysis.specs.Outlines.{Contours, first_of}
use Rattle.analysis.specs.Records.{analysed}

-- the records out with those of contour k of cs in their place; the others stay
abbrev pub contour_replaced : (ℤ → ℤ → ℤ → ℤ → Bool) → ℕ → Contours → ℕ → List Point → List Point
contour_replaced F N cs k out =
    take (first_of cs k) out ++ (analysed F N (first_of cs k) (slice_index_or cs k []) ++ drop (first_of cs k + length (slice_index_or cs k [])) out)
