use Rattle.std.proofs.Common.{length}
use Rattle.linking.specs.Choices.{at}
use Rattle.linking.specs.Passes.{Shows, stage}
use Rattle.linking.proofs.choices.choose.Given as goal

abbrev pub invariant-loop-i : goal.invariant-loop-i
invariant-loop-i l = Shows (length l.fn.table) (stage l.rule (at l.fn.table) (length l.fn.table) l.i) l.table
