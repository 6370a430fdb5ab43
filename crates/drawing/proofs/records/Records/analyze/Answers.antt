use Rattle.std.proofs.Common.{◌≡◌, true, is_ok, ◌∙◌, arith}
use Rattle.drawing.proofs.Held.{points-held}
use Rattle.drawing.proofs.records.Records.analyze.Goals as goal

pub returns-clause-len : goal.returns-clause-len
returns-clause-len g c =
    let done : is_ok c.resize.result ≡ true = c.resize.ensures.succeeds (omega (arith, c.point_count.ensures.few, c.args.self.now.points_room)) in
    (rw done at c.resize.ensures.len) ∙ (c.point_count.ensures.value ∙ points-held c.args.drawing.now)
