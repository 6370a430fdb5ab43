use Rattle.std.proofs.Common.{arith}
use Rattle.walk.proofs.Backs.{whole}
use Rattle.walk.proofs.Laws.{walked-round}
use Rattle.walk.proofs.Vectors.{sums_are_vectors}
use Rattle.walk.proofs.ends.compute_directions.Goals as goal

pub returns : goal.returns
returns c =
    let v = whole _ c.args.points.now c.args.marks.now _ _ _ _ _
    c.find_start-start.ensures.value (omega arith)
    c.cut_steps.ensures c.spread_directions.ensures c.deal_legs.ensures in
    record {
      value = v;
      round = walked-round _ c.args.points.now (omega arith) c.args.marks.now (omega arith) _ v;
      vectors = sums_are_vectors c.args.points.now;
    }
