-- A contour's point records.
use Rattle.std.specs.Prelude.{ℕ, ◌+◌, ◌-◌, Bool, cond, List, map, length, replicate, ℤ, nat_lt, slice_index_or}
use Rattle.std.specs.List.{range_with_len}
use Rattle.outline.specs.declared.points.DrawnPoint.{DrawnPoint}
use Rattle.outline.specs.declared.points.Point.{Point}
use Rattle.walk.specs.declared.marks.Mark.{Mark}
use Rattle.walk.specs.Steps.{origin, following, leaving, taxicab}
use Rattle.walk.specs.Marks.{blank, walked}
use Rattle.analysis.specs.Passes.{simplified, checked}

-- the index before i, round a contour of n points
abbrev pub preceding : ℕ → ℕ → ℕ
preceding n i = cond (nat_lt 0 i) (i - 1) (n - 1)

-- NEAR: |dx| + |dy| to the next point is below N
abbrev pub is_near : ℕ → List DrawnPoint → ℕ → Bool
is_near N ps i = nat_lt (taxicab (leaving ps i)) N

-- the marks of a contour: the walk, then the two passes; F is the corner rule
unfoldable pub marks_of : (ℤ → ℤ → ℤ → ℤ → Bool) → ℕ → List DrawnPoint → List Mark
marks_of F N ps = checked F ps (simplified ps (walked N ps (replicate (length ps) blank)))

-- the record of point i of a contour whose first point has the index b in the outline
unfoldable pub record_at : ℕ → ℕ → List DrawnPoint → List Mark → ℕ → Point
record_at N b ps ms i = record {
  flags = record { kind = (slice_index_or ps i origin).kind; near = is_near N ps i; weak_interpolation = (slice_index_or ms i blank).weak };
  x = (slice_index_or ps i origin).x;
  y = (slice_index_or ps i origin).y;
  in_dir = (slice_index_or ms i blank).in_dir;
  out_dir = (slice_index_or ms i blank).out_dir;
  next_ix = b + following (length ps) i;
  prev_ix = b + preceding (length ps) i;
}

-- the records of all points of a contour, whose marks are ms
unfoldable pub records : ℕ → ℕ → List DrawnPoint → List Mark → List Point
records N b ps ms = map (record_at N b ps ms) (range_with_len 0 (length ps))

-- the records of a contour whose first point has the index b in the outline
unfoldable pub analysed : (ℤ → ℤ → ℤ → ℤ → Bool) → ℕ → ℕ → List DrawnPoint → List Point
analysed F N b ps = records N b ps (marks_of F N ps)

-- a record whose neighbours are moved up by b
abbrev pub shifted : ℕ → Point → Point
shifted b p = record {
  flags = p.flags;
  x = p.x;
  y = p.y;
  in_dir = p.in_dir;
  out_dir = p.out_dir;
  next_ix = b + p.next_ix;
  prev_ix = b + p.prev_ix;
}
