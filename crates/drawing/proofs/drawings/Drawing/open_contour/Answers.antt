use Rattle.std.proofs.Common.{vec_items, arith, rules}
use Rattle.drawing.proofs.Insides.{inside_push}
use Rattle.drawing.proofs.Tiled.{pushed_tiles, pushed_book}
use Rattle.drawing.proofs.drawings.Drawing.open_contour.Goals as goal

pub invariant_of-self : goal.invariant_of-self
invariant_of-self c =
    let self = c.args.self.now in record {
      few_points = search rules;
      few_contours = search rules;
      points_room = search rules;
      contours_room = search rules;
      tiled = pushed_tiles _ _ _ _ _ _ self.tiled c.len-at.ensures (omega (arith, c.len-at.ensures)) (omega (arith, c.push_reserved-2.ensures.len, c.len-at.ensures)) c.push_reserved.ensures.items;
      inside = inside_push (vec_items self.points) _ c.args.point self.inside c.requires.inside c.push_reserved-2.ensures.items;
    }

pub returns-clause-book : goal.returns-clause-book
returns-clause-book c =
    let self = c.args.self.now in
    pushed_book _ _ _ _ _ _ _ _ self.tiled c.len-at.ensures self.points.ok.0 (omega (arith, c.len-at.ensures)) c.push_reserved.ensures.items c.push_reserved-2.ensures.items
