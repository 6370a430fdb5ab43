use Rattle.std.proofs.Common.{◌≡◌}
use Rattle.analysis.specs.Passes.{passed, simplified_at}
use Rattle.analysis.proofs.chains.Chain.simplify_topology.Given as goal

abbrev pub invariant-loop-i : goal.invariant-loop-i
invariant-loop-i l =
    (l.self.points.now ≡ l.initial.self.points.now)
    × (l.self.marks.now ≡ passed (simplified_at l.initial.self.points.now) l.i l.initial.self.marks.now)
