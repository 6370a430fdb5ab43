use Rattle.std.proofs.Common.{◌∙◌, rules}
use Rattle.walk.proofs.Deals.{dealt-more, dealt-done}
use Rattle.walk.proofs.marks.deal_legs.Goals as goal

pub loop-leg-preserved : goal.loop-leg-preserved
loop-leg-preserved c = (
  search rules,
  search rules,
  dealt-more _ _ c.loop-leg.last c.loop-leg.at c.loop-leg.leg-index c.args.legs.now c.loop-leg.marks _ _ _ _
      c.loop-leg-test.true c.next_of-to.ensures.value c.deal_leg-last.ensures.value c.deal_leg-last.ensures.after
      ∙ c.loop-leg.invariant.2,
)

pub returns : goal.returns
returns c =
    dealt-done _ _ c.loop-leg.last c.loop-leg.at c.loop-leg.leg-index c.args.legs.now c.loop-leg.marks _
    c.loop-leg-test.false c.close_chain.ensures
    ∙ c.loop-leg.invariant.2
