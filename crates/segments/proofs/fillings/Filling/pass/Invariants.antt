use Rattle.segments.proofs.Turns.{Passing}
use Rattle.segments.proofs.fillings.Filling.pass.Given as goal

abbrev pub invariant-loop-i : goal.invariant-loop-i
invariant-loop-i l = Passing l.initial.self l.self l.first l.points l.i
