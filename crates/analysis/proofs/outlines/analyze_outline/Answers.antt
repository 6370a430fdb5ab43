use Rattle.std.proofs.Common.{arith}
use Rattle.analysis.proofs.Standing.{stand_alone}
use Rattle.analysis.proofs.Tilings.{turn, written_none, written_more, written_all}
use Rattle.analysis.proofs.outlines.analyze_outline.Goals as goal

pub loop-contour-init : goal.loop-contour-init
loop-contour-init g c = written_none _ _ c.args.points.now c.args.contours.now c.args.out.now c.requires.tiles.0

pub analyze_span-requires-clause-first_lt_end : goal.analyze_span-requires-clause-first_lt_end
analyze_span-requires-clause-first_lt_end g c =
    let w = c.loop-contour.invariant in
    let t = turn _ c.args.contours.now c.loop-contour.contour-index w.from _ c.loop-contour-test.true w.tiles in
    (t.some, (t.fits, omega arith))

pub loop-contour-preserved : goal.loop-contour-preserved
loop-contour-preserved g c =
    written_more _ _ c.args.points.now c.args.contours.now c.loop-contour.out _ c.loop-contour.contour-index _
    c.loop-contour-test.true (omega arith) c.loop-contour.invariant c.analyze_span.ensures

pub returns : goal.returns
returns g c =
    let v = written_all _ _ c.args.points.now c.args.contours.now c.loop-contour.out c.loop-contour.contour-index
    c.loop-contour-test.false (omega arith) c.loop-contour.invariant in
    record { value = v; alone = stand_alone _ _ c.args.contours.now c.args.points.now _ c.requires.tiles.0 v }
