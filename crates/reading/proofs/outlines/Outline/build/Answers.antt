use Rattle.std.proofs.Common.{arith, Ok, Err}
use Rattle.reading.proofs.Drawn.{builds-drawn}
use Rattle.reading.proofs.outlines.Outline.build.Goals as goal

pub returns-in_err-count-clause-drawn : goal.returns-in_err-count-clause-drawn
returns-in_err-count-clause-drawn c = λ flat ps tiles e.
    let left = builds-drawn flat c.args.self.now.settings.now.units c.args.dim ps c.args.self.now.points.now c.args.self.now.contours.now
    c.args.table.now c.build_segments.new.table (Err c.in_err-count.field-0.0) (omega arith) c.in_err-count.ensures.read tiles e in
    grind (arith, c.from_residual.ensures, left)

pub returns-clause-drawn : goal.returns-clause-drawn
returns-clause-drawn c = λ flat ps tiles e. builds-drawn flat c.args.self.now.settings.now.units c.args.dim ps c.args.self.now.points.now c.args.self.now.contours.now
    c.args.table.now c.build_segments.new.table (Ok c.in_ok-count.count) (omega arith) c.in_ok-count.ensures.read tiles e
