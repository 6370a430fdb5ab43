use Rattle.std.proofs.Common.{◌≡◌, ℕ, length, refl, ap, ◌∙◌, arith}
use Rattle.analysis.specs.Passes.{passed, simplified, simplified_at}
use Rattle.analysis.proofs.Passing.{passed_none, passed-more}
use Rattle.analysis.proofs.chains.Chain.simplify_topology.Goals as goal

pub loop-i-init : goal.loop-i-init
loop-i-init c = (refl, passed_none _ _)

pub loop-i-preserved : goal.loop-i-preserved
loop-i-preserved c = (
  c.simplify_at.ensures.points ∙ c.loop-i.invariant.0,
  passed-more (simplified_at c.args.self.now.points.now) c.loop-i.i _ c.loop-i.self.marks.now _ c.loop-i.invariant.1
      (c.simplify_at.ensures.marks ∙ ap (λ ps. simplified_at ps c.loop-i.i c.loop-i.self.marks.now) c.loop-i.invariant.0),
)

pub returns-clause-marks : goal.returns-clause-marks
unfolding simplified
returns-clause-marks c =
    let e : c.loop-i.i ≡ length c.args.self.now.points.now = omega arith in
    c.loop-i.invariant.1 ∙ ap (λ (k : ℕ). passed (simplified_at c.args.self.now.points.now) k c.args.self.now.marks.now) e
