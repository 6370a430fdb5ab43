use Rattle.std.proofs.Common.{arith}
use Rattle.drawing.proofs.Held.{some, ends, own-length, first_is}
use Rattle.drawing.proofs.drawings.Drawing.contour.Goals as goal

pub returns-clause-first : goal.returns-clause-first
returns-clause-first c = first_is c.args.self.now c.args.k c.requires c.index.result.now c.index.ensures

pub returns-clause-end : goal.returns-clause-end
returns-clause-end c =
    let d = c.args.self.now in
    let k = c.args.k in
    let at = c.index.result.now in
    let e = c.index.ensures in
    omega (arith, first_is d k c.requires at e, own-length d k c.requires at e, some d k c.requires at e)

pub returns-clause-some : goal.returns-clause-some
returns-clause-some c = some c.args.self.now c.args.k c.requires c.index.result.now c.index.ensures

pub returns-clause-within : goal.returns-clause-within
returns-clause-within c = ends c.args.self.now c.args.k c.requires c.index.result.now c.index.ensures
