-- One step of the walk round a contour.
use Rattle.std.specs.Prelude.{ℕ, Bool, true, false, cond, not, ◌&&◌, Some, None, Option}
use Rattle.outline.specs.Directions.{same}
use Rattle.segments.specs.declared.measures.AxisPoint.{AxisPoint}
use Rattle.segments.specs.declared.measures.Dimension.{Dimension}
use Rattle.segments.specs.declared.states.State.{State}
use Rattle.segments.specs.Measures.{on_line}
use Rattle.segments.specs.States.{opened, taken}

-- what meeting a point does: the segment that it closes, if any, whether it opens one, and the segment that the walk is inside of then
pub record Moved : Type 0 where
  pub closed : Option State
  pub opens : Bool
  pub walk : Option State

-- between segments a point whose out_dir is on the line opens one, unless the walk ends
abbrev pub met : Dimension → Option State → ℕ → AxisPoint → Bool → Moved
met dim closed at p ends =
    cond (on_line dim p.out_dir && not ends)
    (record { closed = closed; opens = true; walk = Some (opened at p) })
    (record { closed = closed; opens = false; walk = None })

-- inside, each point is taken in; one whose out_dir differs, or the walk's last, closes the segment
abbrev pub moved : Dimension → Option State → ℕ → AxisPoint → Bool → Moved
moved dim None at p ends = met dim None at p ends
moved dim (Some s) at p ends =
    cond (same p.out_dir s.dir && not ends)
    (record { closed = None; opens = false; walk = Some (taken s at p) })
    (met dim (Some (taken s at p)) at p ends)
