-- What a segment has taken in so far, as the builder holds it.
use Rattle.std.specs.Prelude.{ℕ, ◌/◌, Bool, true, false, cond, ◌&&◌, ◌||◌, Some, None, Option, nat_lt}
use Rattle.outline.specs.declared.points.PointKind.{PointKind}
use Rattle.outline.specs.declared.points.PointKind.TheVariants.{Control, OnCurve}
use Rattle.segments.specs.declared.measures.AxisPoint.{AxisPoint}
use Rattle.segments.specs.declared.states.Mark.{Mark}
use Rattle.segments.specs.declared.states.Reach.{Reach}
use Rattle.segments.specs.declared.states.State.{State}
use Rattle.segments.specs.Measures.{lesser, greater, before, nearer, farther, gap}

-- a point's coordinate and kind
abbrev pub mark_of : AxisPoint → Mark
mark_of p = record { at = p.coordinate; kind = p.kind }

-- a control point, which is not on the curve
abbrev pub control : PointKind → Bool
control Control = true
control OnCurve = false

-- whether the point that gave a coordinate is a control
abbrev pub is_control : Mark → Bool
is_control m = control m.kind

-- the lower and the higher end: the earlier stands unless the later passes it
abbrev pub lowered : Mark → Mark → Mark
lowered a b = cond (before b.at a.at) b a

abbrev pub raised : Mark → Mark → Mark
raised a b = cond (before a.at b.at) b a

-- the least and the greatest coordinate with one more
abbrev pub reach_with : Option Reach → AxisPoint → Reach
reach_with None p = record { low = p.coordinate; high = p.coordinate }
reach_with (Some r) p = record { low = nearer r.low p.coordinate; high = farther r.high p.coordinate }

-- only points on the curve count
abbrev pub on_reach : Option Reach → AxisPoint → Option Reach
on_reach r p = cond (control p.kind) r (Some (reach_with r p))

-- a segment of one point, in the direction in which the point is left
abbrev pub opened : ℕ → AxisPoint → State
opened at p = record {
  dir = p.out_dir;
  first = at;
  last = at;
  least = p.position;
  greatest = p.position;
  low = mark_of p;
  high = mark_of p;
  reach = on_reach None p;
}

-- the same with one more point
abbrev pub taken : State → ℕ → AxisPoint → State
taken s at p = record {
  dir = s.dir;
  first = s.first;
  last = at;
  least = lesser s.least p.position;
  greatest = greater s.greatest p.position;
  low = lowered s.low (mark_of p);
  high = raised s.high (mark_of p);
  reach = on_reach s.reach p;
}

-- the height: from the least coordinate to the greatest
abbrev pub extent : State → ℕ
extent s = gap s.low.at s.high.at

-- the earlier if its height is greater, else the later
abbrev pub taller : State → State → State
taller a b = cond (nat_lt (extent b) (extent a)) a b

-- the survivor takes the later's last point, and the positions of both
abbrev pub merged : State → State → State
merged a b = record {
  dir = (taller a b).dir;
  first = (taller a b).first;
  last = b.last;
  least = lesser a.least b.least;
  greatest = greater a.greatest b.greatest;
  low = (taller a b).low;
  high = (taller a b).high;
  reach = (taller a b).reach;
}

-- how far the points on the curve reach
abbrev pub span : Reach → ℕ
span r = gap r.low r.high

-- less than a fourteenth of the em, which no points on the curve also are
abbrev pub short : ℕ → Option Reach → Bool
short units None = true
short units (Some r) = nat_lt (span r) (units / 14)

-- an end that a control first gave, and points on the curve that lie close together
abbrev pub is_round : ℕ → State → Bool
is_round units s = (is_control s.low || is_control s.high) && short units s.reach
