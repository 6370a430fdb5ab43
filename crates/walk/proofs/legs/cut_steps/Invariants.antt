use Rattle.std.proofs.Common.{◌≡◌, ◌-◌, ◌^◌, ◌<◌, ◌≤◌, ◌++◌, length, take}
use Rattle.walk.specs.Steps.{steps_from, no_step, taxicab}
use Rattle.walk.specs.Legs.{cuts}
use Rattle.walk.proofs.legs.cut_steps.Given as goal

-- what is left of the walk gives what is left of the legs
abbrev pub invariant-loop-leg : goal.invariant-loop-leg
invariant-loop-leg l =
    (l.at < length l.points) × (taxicab l.sum ≤ 2 ^ 16)
    × (take l.leg-index l.legs ++ cuts l.near_limit l.sum (steps_from l.points l.at (length l.points - l.leg-index))
    ≡ cuts l.near_limit no_step (steps_from l.points l.start (length l.points)))
