use Rattle.std.proofs.Common.{◌+ℤ◌, ◌^◌, ◌≤◌, nat_abs, length, get_or, w64, SFits, to_z, ap, ◌∙◌, arith, rules}
use Rattle.std.proofs.lemmas.Int.{ints, to_z-of_z}
use Rattle.outline.specs.declared.contours.Contour.{Contour}
use Rattle.analysis.specs.Areas.{orientation_of, contour_area}
use Rattle.analysis.proofs.Tilings.{turn, summed_none, summed_more, summed_all, length-points}
use Rattle.analysis.proofs.areas.compute_orientation.Goals as goal

pub loop-contour-init : goal.loop-contour-init
loop-contour-init c = summed_none c.args.points.now c.args.contours.now c.requires.0

pub slice-requires-clause-inside : goal.slice-requires-clause-inside
slice-requires-clause-inside c =
    (turn _ c.args.contours.now c.loop-contour.contour-index c.loop-contour.invariant.from _ c.loop-contour-test.true c.loop-contour.invariant.tiles).fits

pub contour_area-area-requires : goal.contour_area-area-requires
contour_area-area-requires c =
    let contour : Contour = get_or c.args.contours.now c.loop-contour.contour-index (record { first = 0; end = 0 }) in
    let t = turn _ c.args.contours.now c.loop-contour.contour-index c.loop-contour.invariant.from (record { first = 0; end = 0 }) c.loop-contour-test.true c.loop-contour.invariant.tiles in
    let long = ap length c.slice.ensures ∙ length-points c.args.points.now contour t.fits in
    (omega (arith, long, t.some), omega (arith, long, t.fits))

pub loop-contour-preserved : goal.loop-contour-preserved
loop-contour-preserved c =
    let w = c.loop-contour.invariant in
    let t = turn _ c.args.contours.now c.loop-contour.contour-index w.from (record { first = 0; end = 0 }) c.loop-contour-test.true w.tiles in
    let sum = to_z w64 c.loop-contour.area-bits in
    let long = ap length c.slice.ensures in
    let small : nat_abs sum ≤ 2 ^ 43 = omega (arith, w.bound, t.here, t.some, t.fits) in
    let contour : Contour = get_or c.args.contours.now c.loop-contour.contour-index (record { first = 0; end = 0 }) in
    let few = length-points c.args.points.now contour t.fits in
    let more : nat_abs c.contour_area-area.result ≤ 2 ^ 43 = omega (arith, c.contour_area-area.ensures.bound, long, few, t.fits) in
    let ft : SFits w64 c.contour_area-area.result = search rules in
    let fs : SFits w64 (sum +ℤ c.contour_area-area.result) = search rules in
    rw (to_z-of_z w64 _ ft, to_z-of_z w64 _ fs)
    (summed_more c.args.points.now c.args.contours.now sum _ c.loop-contour.contour-index (record { first = 0; end = 0 }) c.loop-contour-test.true w
    (ap (λ z. sum +ℤ z) (c.contour_area-area.ensures.value ∙ ap contour_area c.slice.ensures)) (omega (arith, ints, c.contour_area-area.ensures.bound, long)))

pub returns : goal.returns
returns c =
    c.orientation_of.ensures
    ∙ ap orientation_of (summed_all c.args.points.now c.args.contours.now _ c.loop-contour.contour-index
    c.loop-contour-test.false c.loop-contour.invariant)
