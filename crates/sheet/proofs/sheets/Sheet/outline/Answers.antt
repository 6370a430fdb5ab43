use Rattle.std.proofs.Common.{◌≡◌, length, vec_items, ap, arith}
use Rattle.sheet.proofs.Spans.{drawing-inside}
use Rattle.sheet.proofs.sheets.Sheet.outline.Goals as goal

pub returns-clause-inside : goal.returns-clause-inside
returns-clause-inside g c =
    let s = c.args.self.now in
    let count : length c.points.result.now ≡ length (vec_items s.drawing.points) =
    omega (arith, ap length c.points.ensures.value, s.records.points.ok.0, s.counted, s.drawing.points.ok.0) in
    rw (count, c.contours.ensures.value) (drawing-inside s.drawing)
