-- The segments of a contour in the subject's words: each is the points that it took in, counted from the contour's start
-- (af_latin_hints_compute_segments).
use Rattle.std.specs.Prelude.{ℕ, ◌+◌, Bool, true, false, cond, not, ◌&&◌, List, [], ◌∷◌, ◌++◌, map, length, Some, None, fold, Option, ◌==◌, nat_lt}
use Rattle.std.specs.Option.{option_to_list}
use Rattle.outline.specs.Directions.{same}
use Rattle.outline.specs.declared.points.Point.{Point}
use Rattle.segments.specs.declared.measures.AxisPoint.{AxisPoint}
use Rattle.segments.specs.declared.measures.Dimension.{Dimension}
use Rattle.segments.specs.declared.measures.Position.{Position}
use Rattle.segments.specs.declared.states.Mark.{Mark}
use Rattle.segments.specs.declared.states.Reach.{Reach}
use Rattle.segments.specs.declared.states.State.{State}
use Rattle.segments.specs.declared.tables.Segment.{Segment}
use Rattle.segments.specs.Building.{Visit, visits_of, room_with}
use Rattle.segments.specs.Measures.{seen, lesser, greater, gap}
use Rattle.segments.specs.Segments.{segment_of}
use Rattle.segments.specs.Starts.{on}
use Rattle.segments.specs.States.{mark_of, lowered, raised, on_reach}

-- the points that a segment took in, in their order
pub data Taken : Type 0 where
  lone : Visit → Taken
  more : Taken → Visit → Taken

-- the first and the last of them
abbrev pub first_of : Taken → Visit
first_of (lone v) = v
first_of (more t v) = first_of t

abbrev pub last_of : Taken → Visit
last_of (lone v) = v
last_of (more t v) = v

-- the points of two, one after the other
abbrev pub both : Taken → Taken → Taken
both t (lone v) = more t v
both t (more u v) = more (both t u) v

-- least and greatest position
abbrev pub least_of : Taken → Position
least_of (lone v) = v.point.position
least_of (more t v) = lesser (least_of t) v.point.position

abbrev pub greatest_of : Taken → Position
greatest_of (lone v) = v.point.position
greatest_of (more t v) = greater (greatest_of t) v.point.position

-- least and greatest coordinate, each with the kind of the point that first gave it
abbrev pub low_of : Taken → Mark
low_of (lone v) = mark_of v.point
low_of (more t v) = lowered (low_of t) (mark_of v.point)

abbrev pub high_of : Taken → Mark
high_of (lone v) = mark_of v.point
high_of (more t v) = raised (high_of t) (mark_of v.point)

-- least and greatest coordinate of the points on the curve
abbrev pub reach_of : Taken → Option Reach
reach_of (lone v) = on_reach None v.point
reach_of (more t v) = on_reach (reach_of t) v.point

-- from the least coordinate to the greatest
abbrev pub height_of : Taken → ℕ
height_of t = gap (low_of t).at (high_of t).at

-- a segment: the points that it took in itself, and all points merged into its place so far
pub record Stretch : Type 0 where
  pub own : Taken
  pub all : Taken

-- a segment that nothing was merged with
abbrev pub plain : Taken → Stretch
plain t = record { own = t; all = t }

-- of two neighbours the earlier survives if its height is greater, else the later
abbrev pub unite : Stretch → Stretch → Stretch
unite a b = record { own = cond (nat_lt (height_of b.own) (height_of a.own)) a.own b.own; all = both a.all b.all }

-- direction, first point, ends and roundness are by its own points; last point and positions by all
abbrev pub summary : ℕ → Stretch → State
summary base s = record {
  dir = (first_of s.own).point.out_dir;
  first = base + (first_of s.own).at;
  last = base + (last_of s.all).at;
  least = least_of s.all;
  greatest = greatest_of s.all;
  low = low_of s.own;
  high = high_of s.own;
  reach = reach_of s.own;
}

-- what meeting a point does: what it closes, whether it opens, what the walk is inside of then
pub record Went : Type 0 where
  pub closed : Option Taken
  pub opens : Bool
  pub inside : Option Taken

-- between segments: a point on the line opens one, unless the walk ends
abbrev pub enters : Dimension → Option Taken → Visit → Went
enters dim closed v =
    cond (on dim v.point && not v.ends)
    (record { closed = closed; opens = true; inside = Some (lone v) })
    (record { closed = closed; opens = false; inside = None })

-- inside: each point is taken in; one left in another direction, or the walk's last, closes the segment and may open the next
abbrev pub went : Dimension → Option Taken → Visit → Went
went dim None v = enters dim None v
went dim (Some t) v =
    cond (same v.point.out_dir (first_of t).point.out_dir && not v.ends)
    (record { closed = None; opens = false; inside = Some (more t v) })
    (enters dim (Some (more t v)) v)

-- how far the walk has come: what it is inside of, the segments before the latest, the latest, and the most that were held at once, an open one among them
pub record Course : Type 0 where
  pub inside : Option Taken
  pub done : List Stretch
  pub latest : Option Stretch
  pub room : ℕ

-- whether a segment begins at the last point of the one before it
abbrev pub touches : Option Stretch → Taken → Bool
touches None t = false
touches (Some e) t = (last_of e.all).at == (first_of t).at

-- the two in one
abbrev pub unite_with : Option Stretch → Taken → Stretch
unite_with None t = plain t
unite_with (Some e) t = unite e (plain t)

-- a segment that closes takes the place of the latest if they touch, and the next place if not
abbrev pub earlier : List Stretch → Option Stretch → Option Taken → List Stretch
earlier done latest None = done
earlier done latest (Some t) = cond (touches latest t) done (done ++ option_to_list latest)

abbrev pub newest : Option Stretch → Option Taken → Option Stretch
newest latest None = latest
newest latest (Some t) = Some (cond (touches latest t) (unite_with latest t) (plain t))

-- what meeting a point leaves
abbrev pub onward : Course → Went → Course
onward c w = record {
  inside = w.inside;
  done = earlier c.done c.latest w.closed;
  latest = newest c.latest w.closed;
  room = room_with c.room w.opens (length (earlier c.done c.latest w.closed ++ option_to_list (newest c.latest w.closed)));
}

-- one point further
abbrev pub coursed : Dimension → Course → Visit → Course
coursed dim c v = onward c (went dim c.inside v)

-- before the first point
abbrev pub setting_out : Course
setting_out = record { inside = None; done = []; latest = None; room = 0 }

-- all the points that the walk meets
unfoldable pub course : Dimension → List Visit → Course
course dim vs = fold (coursed dim) setting_out vs

-- a contour of one point opens and closes a segment
abbrev pub lone_course : AxisPoint → Course
lone_course p = record { inside = None; done = []; latest = Some (plain (lone (record { at = 0; point = p; ends = false }))); room = 1 }

-- a contour without points has no segment; with several points, it is walked round
abbrev pub course_of : Dimension → List AxisPoint → Course
course_of dim [] = setting_out
course_of dim (p ∷ []) = lone_course p
course_of dim (p ∷ q ∷ ps) = course dim (visits_of dim (p ∷ q ∷ ps))

-- the segments that are closed
abbrev pub stretches_of : Course → List Stretch
stretches_of c = c.done ++ option_to_list c.latest

-- the unlinked segments of a contour, with indices counted from its start
unfoldable pub segments_of : Dimension → ℕ → List Point → List Segment
segments_of dim units ps = map (λ s. segment_of units (summary 0 s)) (stretches_of (course_of dim (map (seen dim) ps)))

-- the most segments that a contour holds at once
unfoldable pub most_of : Dimension → List Point → ℕ
most_of dim ps = (course_of dim (map (seen dim) ps)).room

-- a segment whose points stand base further on
abbrev pub shifted : ℕ → Segment → Segment
shifted base s = record {
  dir = s.dir;
  pos = s.pos;
  delta = s.delta;
  min_coord = s.min_coord;
  max_coord = s.max_coord;
  height = s.height;
  round = s.round;
  score = s.score;
  link = s.link;
  serif = s.serif;
  first = base + s.first;
  last = base + s.last;
}
