use Rattle.linking.proofs.Finished.{unsettled, settled_linked}
use Rattle.linking.proofs.stems.link_by_rule.Goals as goal

pub settle-requires-clause-unsettled : goal.settle-requires-clause-unsettled
settle-requires-clause-unsettled c = unsettled c.args.rule.now c.args.table.now c.choose.new.table c.choose.ensures

pub returns : goal.returns
returns c = settled_linked c.args.rule.now c.args.table.now c.choose.new.table c.settle.new.table c.choose.ensures c.settle.ensures
