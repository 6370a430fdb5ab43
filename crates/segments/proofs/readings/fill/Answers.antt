use Rattle.std.proofs.Common.{rules}
use Rattle.segments.proofs.Contours.{sofar_more, sofar_breaks, filled_err}
use Rattle.segments.proofs.readings.fill.Goals as goal

pub returns-in_err-build : goal.returns-in_err-build
returns-in_err-build c =
    filled_err c.args.dim c.args.units c.args.points.now c.args.contours.now c.args.table.now _ c.from_residual.result c.from_residual.ensures.0
    (sofar_breaks c.args.dim c.args.units c.args.points.now c.args.contours.now c.args.table.now c.requires.table c.loop-contour.contour-index c.loop-contour.filling
    (record { first = 0; end = 0 }) c.loop-contour.invariant.so_far c.loop-contour-test.true
    c.build.new.self c.slice.result.now c.slice.ensures c.in_err-build.field-0.0 c.in_err-build.ensures)

pub loop-contour-preserved : goal.loop-contour-preserved
loop-contour-preserved c = record {
  same_table = search rules;
  so_far = sofar_more c.args.dim c.args.units c.args.points.now c.args.contours.now c.args.table.now c.requires.table c.loop-contour.contour-index
      c.loop-contour.filling (record { first = 0; end = 0 }) c.loop-contour.invariant.so_far c.loop-contour-test.true
      c.build.new.self c.slice.result.now c.slice.ensures tt c.in_ok-build.ensures;
}
