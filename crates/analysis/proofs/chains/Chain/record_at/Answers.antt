use Rattle.std.proofs.Common.{get_or, w16, SFits, rules}
use Rattle.std.proofs.lemmas.Int.{to_z-of_z}
use Rattle.walk.specs.Steps.{origin}
use Rattle.analysis.proofs.Fills.{record_is}
use Rattle.analysis.proofs.chains.Chain.record_at.Goals as goal

pub returns : goal.returns
returns c =
    let ps = c.args.self.now.points.now in
    let fx : SFits w16 (get_or ps c.args.i origin).x = search rules in
    let fy : SFits w16 (get_or ps c.args.i origin).y = search rules in
    record_is _ _ c.args.self.now.points.now c.args.self.now.marks.now c.args.i _ _ _ _ _ _ _ (to_z-of_z w16 _ fx) (to_z-of_z w16 _ fy)
    c.is_near-near.ensures c.next_of.ensures.value c.prev_of.ensures.value c.index_at.ensures c.index_at-2.ensures
