use Rattle.std.proofs.Common.{ℕ, length, replicate, refl, ap, ◌∙◌, arith}
use Rattle.std.proofs.lemmas.List.{length-take-le}
use Rattle.walk.specs.Marks.{blank}
use Rattle.analysis.specs.Passes.{checked}
use Rattle.analysis.specs.Records.{records}
use Rattle.analysis.proofs.Fills.{alone, whole}
use Rattle.analysis.proofs.Links.{good-walked}
use Rattle.analysis.proofs.contours.analyze_contour.Goals as goal

pub invariant_of-chain : goal.invariant_of-chain
invariant_of-chain g c =
    let cut = length-take-le (length c.args.points.now) c.args.marks.now (omega arith) in
    let clear = c.clear_marks.ensures ∙ ap (λ (n : ℕ). replicate n blank) cut in
    let good = good-walked _ c.args.points.now _ _ (omega arith) clear c.compute_directions.ensures.value in
    (record { marks_len = good.long; linked = good.all })

pub returns : goal.returns
returns g c =
    let cut = length-take-le (length c.args.points.now) c.args.marks.now (omega arith) in
    let clear = c.clear_marks.ensures ∙ ap (λ (n : ℕ). replicate n blank) cut in
    let simple = c.simplify_topology.ensures in
    let check = c.check_remaining_weak_points.ensures in
    let marks = check.marks ∙ ap (λ ps. checked (g.R.CornerRule.flat c.args.rule.now) ps c.simplify_topology.new.self.marks.now) simple.points in
    let out = c.write_records.ensures ∙ ap (λ ps. records c.near_limit.result c.args.base ps c.check_remaining_weak_points.new.self.marks.now) (check.points ∙ simple.points) in
    let v = whole _ _ _ _ _ c.args.points.now _ _ _ _ _ c.near_limit.ensures.value refl clear c.compute_directions.ensures.value simple.marks marks out in
    record { value = v; alone = v ∙ alone _ _ _ c.args.points.now }
