use Rattle.std.proofs.Common.{◌≡◌}
use Rattle.analysis.specs.Passes.{passed, checked_at}
use Rattle.analysis.proofs.chains.Chain.check_remaining_weak_points.Given as goal

abbrev pub invariant-loop-i : goal.invariant-loop-i
invariant-loop-i g l =
    (l.self.points.now ≡ l.initial.self.points.now)
    × (l.self.marks.now ≡ passed (checked_at (g.R.CornerRule.flat l.rule) l.initial.self.points.now) l.i l.initial.self.marks.now)
