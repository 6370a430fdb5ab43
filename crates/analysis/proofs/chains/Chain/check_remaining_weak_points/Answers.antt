use Rattle.std.proofs.Common.{◌≡◌, ℕ, length, refl, ap, ◌∙◌, arith}
use Rattle.analysis.specs.Passes.{passed, checked, checked_at}
use Rattle.analysis.proofs.Passing.{passed_none, passed-more}
use Rattle.analysis.proofs.chains.Chain.check_remaining_weak_points.Goals as goal

pub loop-i-init : goal.loop-i-init
loop-i-init g c = (refl, passed_none _ _)

pub loop-i-preserved : goal.loop-i-preserved
loop-i-preserved g c =
    let F = g.R.CornerRule.flat c.args.rule.now in (
      c.check_at.ensures.points ∙ c.loop-i.invariant.0,
      passed-more (checked_at F c.args.self.now.points.now) c.loop-i.i _ c.loop-i.self.marks.now _ c.loop-i.invariant.1
          (c.check_at.ensures.marks ∙ ap (λ ps. checked_at F ps c.loop-i.i c.loop-i.self.marks.now) c.loop-i.invariant.0),
    )

pub returns-clause-marks : goal.returns-clause-marks
unfolding checked
returns-clause-marks g c =
    let F = g.R.CornerRule.flat c.args.rule.now in
    let e : c.loop-i.i ≡ length c.args.self.now.points.now = omega arith in
    c.loop-i.invariant.1 ∙ ap (λ (k : ℕ). passed (checked_at F c.args.self.now.points.now) k c.args.self.now.marks.now) e
