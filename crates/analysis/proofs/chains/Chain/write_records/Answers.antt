use Rattle.std.proofs.Common.{length, arith}
use Rattle.std.proofs.lemmas.List.FromFn.{fill_by_all}
use Rattle.analysis.specs.Records.{records, record_at}
use Rattle.analysis.proofs.chains.Chain.write_records.Goals as goal

pub returns : goal.returns
unfolding records
returns c =
    fill_by_all (record_at c.args.near_limit c.args.base c.args.self.now.points.now c.args.self.now.marks.now) c.loop-i.out
    (length c.args.self.now.points.now) _ (omega arith) (λ k h. c.loop-i.invariant k (omega arith))
