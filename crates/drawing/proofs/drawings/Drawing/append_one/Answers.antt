use Rattle.std.proofs.Common.{arith}
use Rattle.drawing.proofs.Held.{points-held, contour-fits}
use Rattle.drawing.proofs.drawings.Drawing.append_one.Goals as goal

pub append_contour-requires-clause-some : goal.append_contour-requires-clause-some
append_contour-requires-clause-some c = rw c.contour_points.ensures (contour-fits c.args.other.now c.args.k c.requires.there).some

pub append_contour-requires-clause-inside : goal.append_contour-requires-clause-inside
append_contour-requires-clause-inside c = rw c.contour_points.ensures (contour-fits c.args.other.now c.args.k c.requires.there).inside

pub append_contour-requires-clause-points : goal.append_contour-requires-clause-points
append_contour-requires-clause-points c = rw c.contour_points.ensures (omega (arith, points-held c.args.self.now, c.requires.points))
