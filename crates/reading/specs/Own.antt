-- A contour's own segments in a table.
use Rattle.std.specs.Prelude.{ℕ, ◌-◌, Bool, ◌&&◌, List, map, take, None, filter, nat_le, nat_lt}
use Rattle.segments.specs.declared.tables.Segment.{Segment}

-- the segment as it is before linking, its first and last point counted from the point f
abbrev pub counted_from : ℕ → Segment → Segment
counted_from f s = record {
  dir = s.dir;
  pos = s.pos;
  delta = s.delta;
  min_coord = s.min_coord;
  max_coord = s.max_coord;
  height = s.height;
  round = s.round;
  score = 32000;
  link = None;
  serif = None;
  first = s.first - f;
  last = s.last - f;
}

-- whether its first point is one of those from f up to, and without, e
abbrev pub begins_in : ℕ → ℕ → Segment → Bool
begins_in f e s = nat_le f s.first && nat_lt s.first e

-- of the first n entries of a table those that begin in f..e, in their order, each counted from f
abbrev pub own_segments : ℕ → ℕ → ℕ → List Segment → List Segment
own_segments f e n t = map (counted_from f) (filter (begins_in f e) (take n t))
