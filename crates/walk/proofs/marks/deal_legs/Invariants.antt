use Rattle.std.proofs.Common.{◌≡◌, ◌<◌, length, drop}
use Rattle.walk.specs.Marks.{dealt_all}
use Rattle.walk.proofs.marks.deal_legs.Given as goal

-- what is left of the legs makes of these marks what all of them make of the first
abbrev pub invariant-loop-leg : goal.invariant-loop-leg
invariant-loop-leg l =
    (l.at < length l.initial.marks) × (l.last < length l.initial.marks)
    × (dealt_all (length l.initial.marks) l.start l.last l.at (drop l.leg-index l.legs) l.marks
    ≡ dealt_all (length l.initial.marks) l.start l.start l.start l.legs l.initial.marks)
