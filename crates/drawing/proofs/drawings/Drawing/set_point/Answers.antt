use Rattle.std.proofs.Common.{vec_items, refl}
use Rattle.drawing.proofs.Held.{moved}
use Rattle.drawing.proofs.Insides.{inside-set}
use Rattle.drawing.proofs.drawings.Drawing.set_point.Goals as goal

pub invariant_of-self : goal.invariant_of-self
invariant_of-self c =
    let d = c.args.self.now in
    record { few_points = d.few_points; few_contours = d.few_contours; points_room = d.points_room; contours_room = d.contours_room; tiled = d.tiled; inside = inside-set (vec_items d.points) _ c.args.point d.inside c.requires.inside }

pub returns-clause-book : goal.returns-clause-book
returns-clause-book c = moved c.args.self.now c.args.k c.requires.there c.index.result.now c.index.ensures c.args.j c.args.point _ c.requires.within refl
