-- How much room a step needs.
use Rattle.std.proofs.Common.{◌≡◌, ℕ, ◌+◌, ◌≤◌, Bool, true, false, cond, not, ◌&&◌, length, Some, None, Option, arith}
use Rattle.std.proofs.lemmas.Bool.{true≢false}
use Rattle.segments.specs.declared.measures.AxisPoint.{AxisPoint}
use Rattle.segments.specs.declared.measures.Dimension.{Dimension}
use Rattle.segments.specs.declared.states.State.{State}
use Rattle.std.specs.Option.{option_len, option_to_list}
use Rattle.segments.specs.Measures.{on_line}
use Rattle.segments.specs.States.{opened, taken}
use Rattle.outline.specs.Directions.{same}
use Rattle.segments.specs.Walks.{Moved, moved}

pub record Sound (w : Option State) (m : Moved) : Type 0 where
  pub shuts : length (option_to_list m.closed) ≤ option_len w
  pub quiet : m.opens ≡ false → option_len m.walk + length (option_to_list m.closed) ≤ option_len w

pub one_le : (w : Option State) → option_len w ≤ 1
one_le None = omega arith
one_le (Some s) = omega arith

met_sound : (c : Bool) (w : Option State) (closed : Option State) (s : State) → length (option_to_list closed) ≤ option_len w →
    Sound w (cond c (record { closed = closed; opens = true; walk = Some s }) (record { closed = closed; opens = false; walk = None }))
met_sound true w closed s le = record { shuts = le; quiet = λ e. absurd (true≢false e) }
met_sound false w closed s le = record { shuts = le; quiet = λ e. omega arith }

in_sound : (c : Bool) (s n : State) (m : Moved) → Sound (Some s) m →
    Sound (Some s) (cond c (record { closed = None; opens = false; walk = Some n }) m)
in_sound true s n m h = record { shuts = omega arith; quiet = λ e. omega arith }
in_sound false s n m h = h

pub moved_sound : (dim : Dimension) (w : Option State) (at : ℕ) (p : AxisPoint) (ends : Bool) → Sound w (moved dim w at p ends)
moved_sound dim None at p ends = met_sound (on_line dim p.out_dir && not ends) None None (opened at p) (omega arith)
moved_sound dim (Some s) at p ends =
    in_sound (same p.out_dir s.dir && not ends) s (taken s at p) _
    (met_sound (on_line dim p.out_dir && not ends) (Some s) (Some (taken s at p)) (opened at p) (omega arith))
