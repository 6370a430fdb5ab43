-- A segment as a table holds it.
use Rattle.std.specs.Prelude.{ℕ, false, pos}
use Rattle.std.specs.declared.option.Option.TheVariants as option
use Rattle.outline.specs.declared.directions.Direction.TheVariants as direction
use Rattle.segments.specs.declared.states.State.{State}
use Rattle.segments.specs.declared.tables.Segment.{Segment}
use Rattle.segments.specs.Measures.{middle, half_gap}
use Rattle.segments.specs.States.{extent, is_round}

-- an entry that holds no segment
abbrev pub blank : Segment
blank = record {
  dir = direction.None;
  pos = record { 0 = pos 0 };
  delta = pos 0;
  min_coord = record { 0 = pos 0 };
  max_coord = record { 0 = pos 0 };
  height = 0;
  round = false;
  score = 32000;
  link = option.None;
  serif = option.None;
  first = 0;
  last = 0;
}

-- the unlinked segment over what was taken in
abbrev pub segment_of : ℕ → State → Segment
segment_of units s = record {
  dir = s.dir;
  pos = middle s.least s.greatest;
  delta = half_gap s.least s.greatest;
  min_coord = s.low.at;
  max_coord = s.high.at;
  height = extent s;
  round = is_round units s;
  score = 32000;
  link = option.None;
  serif = option.None;
  first = s.first;
  last = s.last;
}
