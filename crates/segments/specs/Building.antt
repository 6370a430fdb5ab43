-- The segments of a contour, as the builder makes them: a fold over the points that the walk meets.
use Rattle.std.specs.Prelude.{ℕ, ◌+◌, max, Bool, true, false, cond, List, [], ◌∷◌, ◌++◌, map, length, take, drop, Some, None, fold, Option, slice_set}
use Rattle.std.specs.Option.{option_to_list}
use Rattle.segments.specs.declared.measures.AxisPoint.{AxisPoint}
use Rattle.segments.specs.declared.measures.Dimension.{Dimension}
use Rattle.segments.specs.declared.states.State.{State}
use Rattle.segments.specs.declared.tables.Segment.{Segment}
use Rattle.segments.specs.Closing.{joins, survivor, place_of}
use Rattle.segments.specs.Segments.{segment_of}
use Rattle.segments.specs.Starts.{start_of}
use Rattle.segments.specs.States.{opened}
use Rattle.segments.specs.Walks.{Moved, moved}

-- a point that the walk meets: its place in the contour, and whether the walk ends there
pub record Visit : Type 0 where
  pub at : ℕ
  pub point : AxisPoint
  pub ends : Bool

-- the points with their places, counted from i
abbrev pub numbered : ℕ → List AxisPoint → List Visit
numbered i [] = []
numbered i (p ∷ ps) = record { at = i; point = p; ends = false } ∷ numbered (i + 1) ps

-- a point at which the walk ends
abbrev pub ending : Visit → Visit
ending v = record { at = v.at; point = v.point; ends = true }

-- from place s once round, and back to s
abbrev pub once_round : ℕ → List Visit → List Visit
once_round s vs = drop s vs ++ (take s vs ++ map ending (take 1 (drop s vs)))

-- the points that the walk meets, one after another
abbrev pub visits_of : Dimension → List AxisPoint → List Visit
visits_of dim ps = once_round (start_of dim ps) (numbered 0 ps)

-- the segment that the walk is inside of, the contour's segments before the latest, the latest, and the most that were held at once, an open one among them
pub record Built : Type 0 where
  pub walk : Option State
  pub done : List State
  pub latest : Option State
  pub room : ℕ

-- the segments that are closed
abbrev pub segs_of : Built → List State
segs_of b = b.done ++ option_to_list b.latest

-- what a segment that closes, if one does, leaves
abbrev pub done_with : List State → Option State → Option State → List State
done_with done latest None = done
done_with done latest (Some s) = cond (joins latest s) done (done ++ option_to_list latest)

abbrev pub latest_with : Option State → Option State → Option State
latest_with latest None = latest
latest_with latest (Some s) = Some (survivor latest s)

-- a segment that opens is held together with the n closed ones
abbrev pub room_with : ℕ → Bool → ℕ → ℕ
room_with room opens n = cond opens (max room (n + 1)) room

-- what one step of the walk leaves
abbrev pub follow : Built → Moved → Built
follow b m = record {
  walk = m.walk;
  done = done_with b.done b.latest m.closed;
  latest = latest_with b.latest m.closed;
  room = room_with b.room m.opens (length (done_with b.done b.latest m.closed ++ option_to_list (latest_with b.latest m.closed)));
}

-- points stand at their place in the contour, counted from base
abbrev pub visited : Dimension → ℕ → Built → Visit → Built
visited dim base b v = follow b (moved dim b.walk (base + v.at) v.point v.ends)

-- before the first step
abbrev pub fresh : Built
fresh = record { walk = None; done = []; latest = None; room = 0 }

-- the points that the walk meets, step after step
unfoldable pub walked : Dimension → ℕ → List Visit → Built
walked dim base vs = fold (visited dim base) fresh vs

-- a contour of one point opens and closes a segment
abbrev pub lone_built : ℕ → AxisPoint → Built
lone_built base p = record { walk = None; done = []; latest = Some (opened base p); room = 1 }

-- a contour without points has no segment; with several points, it is walked round
abbrev pub built_of : Dimension → ℕ → List AxisPoint → Built
built_of dim base [] = fresh
built_of dim base (p ∷ []) = lone_built base p
built_of dim base (p ∷ q ∷ ps) = walked dim base (visits_of dim (p ∷ q ∷ ps))

-- what a closed segment, if any, does to the count and to the table
abbrev pub count_with : ℕ → Option State → Option State → ℕ
count_with n latest None = n
count_with n latest (Some s) = place_of n latest s + 1

abbrev pub table_with : ℕ → List Segment → ℕ → Option State → Option State → List Segment
table_with units t n latest None = t
table_with units t n latest (Some s) = slice_set t (place_of n latest s) (segment_of units (survivor latest s))

-- entries es from place h on
unfoldable pub put : List Segment → ℕ → List Segment → List Segment
put t h es = take h t ++ (es ++ drop (h + length es) t)
