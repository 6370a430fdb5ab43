use Rattle.std.proofs.Common.{◌+◌, ◌-◌, vec_items, vec_len, ap, arith, rules}
use Rattle.outline.specs.declared.contours.Contour.{Contour}
use Rattle.drawing.proofs.Insides.{inside_push}
use Rattle.drawing.proofs.Tiled.{grown_tiles, grown_book}
use Rattle.drawing.proofs.drawings.Drawing.lengthen_contour.Goals as goal

pub invariant_of-self : goal.invariant_of-self
invariant_of-self c =
    let self = c.args.self.now in record {
      few_points = search rules;
      few_contours = search rules;
      points_room = search rules;
      contours_room = search rules;
      tiled = grown_tiles (vec_len self.points) _ (c.len-end.result + 1) (c.len-last.result - 1) _ (vec_items self.contours) c.index.result.now self.tiled (omega (arith, c.len-end.ensures)) c.push_reserved.ensures.len
          (omega (arith, self.contours.ok.0, c.len-last.ensures)) (ap (λ (x : Contour). x.first) c.index.ensures);
      inside = inside_push (vec_items self.points) _ c.args.point self.inside c.requires.inside c.push_reserved.ensures.items;
    }

pub returns-clause-book : goal.returns-clause-book
returns-clause-book c =
    let self = c.args.self.now in
    grown_book (vec_len self.points) (c.len-end.result + 1) (c.len-last.result - 1) _ (vec_items self.contours) c.index.result.now _ _ _ self.tiled (omega (arith, c.len-end.ensures)) self.points.ok.0
    (omega (arith, self.contours.ok.0, c.len-last.ensures)) (ap (λ (x : Contour). x.first) c.index.ensures) c.push_reserved.ensures.items
