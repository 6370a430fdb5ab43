use Rattle.std.proofs.Common.{◌≡◌, ◌*◌, ◌^◌, ◌≤◌, drop, nat_abs}
use Rattle.analysis.proofs.Turns.{left_of}
use Rattle.analysis.proofs.areas.contour_area.Given as goal

abbrev pub invariant-loop-point : goal.invariant-loop-point
invariant-loop-point l =
    (nat_abs l.area ≤ 2 ^ 32 * l.point-index)
    × (left_of l.area l.prev (drop l.point-index l.points) ≡ left_of l.initial.area l.initial.prev l.points)
