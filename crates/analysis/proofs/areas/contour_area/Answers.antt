use Rattle.std.proofs.Common.{◌+ℤ◌, w64, SFits, to_z, ap, ◌∙◌, arith, rules}
use Rattle.std.proofs.lemmas.Int.{ints, to_z-of_z}
use Rattle.analysis.proofs.Turns.{turns_more, turns_all}
use Rattle.analysis.proofs.areas.contour_area.Goals as goal

pub loop-point-preserved : goal.loop-point-preserved
loop-point-preserved c =
    let sum = to_z w64 c.loop-point.area-bits in
    let ft : SFits w64 c.area_term-area.result = search rules in
    let fs : SFits w64 (sum +ℤ c.area_term-area.result) = search rules in
    rw (to_z-of_z w64 _ ft, to_z-of_z w64 _ fs) (
      omega (arith, ints),
      turns_more c.args.points.now c.loop-point.point-index _ c.loop-point.prev sum _ (omega arith) (ap (λ t. sum +ℤ t) c.area_term-area.ensures.value)
          ∙ c.loop-point.invariant.1,
    )

pub returns-clause-value : goal.returns-clause-value
returns-clause-value c =
    turns_all c.args.points.now c.loop-point.point-index c.loop-point.prev _ c.loop-point-test.false c.loop-point.invariant.1
