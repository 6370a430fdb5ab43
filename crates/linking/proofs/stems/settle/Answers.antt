use Rattle.linking.proofs.Settling.{settle_more}
use Rattle.linking.proofs.stems.settle.Goals as goal

pub loop-i-preserved : goal.loop-i-preserved
loop-i-preserved c = settle_more c.args.table.now c.loop-i.table c.release.new.table c.loop-i.i c.requires.unsettled c.loop-i-test.true c.loop-i.invariant c.release.ensures
