use Rattle.std.proofs.Common.{arith}
use Rattle.walk.proofs.Spreads.{back_none, back_more, back-all}
use Rattle.walk.proofs.legs.spread_directions.Goals as goal

pub loop-k-init : goal.loop-k-init
loop-k-init c = back_none c.args.legs.now

pub loop-k-preserved : goal.loop-k-preserved
loop-k-preserved c =
    back_more c.args.legs.now c.loop-k.legs c.loop-k.k _ c.loop-k.dir _ c.in_sum-leg.result
    (omega arith) c.loop-k.auto.k c.loop-k.auto.legs c.loop-k.invariant c.in_sum-leg.ensures

pub returns : goal.returns
returns c = back-all c.args.legs.now c.loop-k.legs c.loop-k.k c.loop-k.dir c.loop-k-test.false c.loop-k.invariant
