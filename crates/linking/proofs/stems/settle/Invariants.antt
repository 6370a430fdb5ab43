use Rattle.std.proofs.Common.{length}
use Rattle.linking.specs.Passes.{Shows, settling}
use Rattle.linking.proofs.stems.settle.Given as goal

abbrev pub invariant-loop-i : goal.invariant-loop-i
invariant-loop-i l = Shows (length l.initial.table) (settling l.initial.table l.i) l.table
