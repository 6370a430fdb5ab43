use Rattle.std.proofs.Common.{ℕ}
use Rattle.segments.specs.declared.tables.Segment.{Segment}
use Rattle.linking.specs.Passes.{stage, Shows}
use Rattle.linking.proofs.Steps.{Met}
use Rattle.linking.proofs.choices.pass.Given as goal

-- segment i has met those below j, and they it; its own entry waits
abbrev pub invariant-loop-j : goal.invariant-loop-j
invariant-loop-j l = (n : ℕ) (g : ℕ → Segment) → Shows n (stage l.rule g n l.i) l.initial.table → Met l.rule g n l.i l.j l.first l.table
