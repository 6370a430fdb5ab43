use Rattle.std.proofs.Common.{ap, arith}
use Rattle.analysis.specs.Outlines.{point_count}
use Rattle.drawing.proofs.Held.{points-held}
use Rattle.sheet.proofs.sheets.Sheet.drop_contour.Goals as goal

pub splice-requires-clause-points : goal.splice-requires-clause-points
splice-requires-clause-points g c =
    let d = c.args.self.now.drawing in
    omega (arith, ap point_count c.clear.ensures.book, points-held d, d.few_points)
