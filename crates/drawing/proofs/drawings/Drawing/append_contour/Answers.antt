use Rattle.std.proofs.Common.{◌≡◌, true, is_ok, vec_items, arith, rules}
use Rattle.drawing.proofs.Insides.{inside-append}
use Rattle.drawing.proofs.Tiled.{pushed_tiles, pushed_book}
use Rattle.drawing.proofs.drawings.Drawing.append_contour.Goals as goal

pub invariant_of-self : goal.invariant_of-self
invariant_of-self c =
    let self = c.args.self.now in
    let done : is_ok c.extend_from_slice.result ≡ true = c.extend_from_slice.ensures.succeeds (omega (arith, self.points_room)) in
    let items = rw done at c.extend_from_slice.ensures.items in
    let len = rw done at c.extend_from_slice.ensures.len in record { few_points = omega (arith, len); few_contours = search rules; points_room = omega (arith, c.extend_from_slice.ensures.capacity, self.points_room); contours_room = search rules; tiled = pushed_tiles _ _ _ _ _ _ self.tiled c.len-first.ensures (omega (arith, c.len-first.ensures)) (omega (arith, len, c.len-first.ensures)) c.push_reserved.ensures.items; inside = inside-append (vec_items self.points) c.args.more.now _ self.inside c.requires.inside items }

pub returns : goal.returns
returns c =
    let self = c.args.self.now in
    let done : is_ok c.extend_from_slice.result ≡ true = c.extend_from_slice.ensures.succeeds (omega (arith, self.points_room)) in
    let items = rw done at c.extend_from_slice.ensures.items in
    pushed_book _ _ _ _ _ _ _ _ self.tiled c.len-first.ensures self.points.ok.0 (omega (arith, c.len-first.ensures)) c.push_reserved.ensures.items items
