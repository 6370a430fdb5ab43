use Rattle.std.proofs.Common.{ℕ, length, sym, ap, ◌∙◌, arith, rules}
use Rattle.walk.specs.Steps.{steps_from, no_step}
use Rattle.walk.specs.Legs.{cuts}
use Rattle.walk.proofs.Walks.{cuts-more, cuts-all}
use Rattle.walk.proofs.legs.cut_steps.Goals as goal

pub loop-leg-preserved : goal.loop-leg-preserved
loop-leg-preserved c = (
  search rules,
  search rules,
  cuts-more _ c.args.points.now c.loop-leg.legs c.loop-leg.leg-index c.loop-leg.at c.loop-leg.sum _ _ _ _ _
      (omega arith) (omega arith)
      c.step_at.ensures.value c.add.ensures.value c.cut.ensures.leg c.cut.ensures.rest c.next_of-at.ensures.value
      ∙ c.loop-leg.invariant.2,
)

pub returns : goal.returns
returns c =
    sym (cuts-all _ _ c.loop-leg.legs c.loop-leg.leg-index _ _ _ (omega arith) (omega arith)) ∙ c.loop-leg.invariant.2
    ∙ ap (λ (N : ℕ). cuts N no_step (steps_from c.args.points.now c.args.start (length c.args.points.now))) c.near_limit-near_limit.ensures.value
