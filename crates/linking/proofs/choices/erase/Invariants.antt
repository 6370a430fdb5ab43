use Rattle.std.proofs.Common.{length, None, cond, ltb}
use Rattle.linking.specs.Choices.{holding, at}
use Rattle.linking.specs.Passes.{Shows}
use Rattle.linking.proofs.choices.erase.Given as goal

abbrev pub invariant-loop-segment : goal.invariant-loop-segment
invariant-loop-segment l = Shows (length l.initial.table) (λ k. cond (ltb k l.segment-index) (holding (at l.initial.table k) 32000 None None) (at l.initial.table k)) l.table
