use Rattle.std.proofs.Common.{◌<◌, List, [], length, get_or, set, refl, ap, ◌∙◌, arith, w32, SFits}
use Rattle.std.proofs.lemmas.List.{length-set}
use Rattle.std.proofs.lemmas.Int.{to_z-of_z}
use Rattle.outline.specs.declared.points.DrawnPoint.{DrawnPoint}
use Rattle.drawing.specs.Books.{book}
use Rattle.drawing.specs.Placing.{admitted}
use Rattle.sheet.specs.Book.{moved_to}
use Rattle.sheet.proofs.Moved.{move_granted, moved-records}
use Rattle.sheet.proofs.Outcomes.{granted}
use Rattle.sheet.proofs.sheets.Sheet.move_point.Goals as goal

pub returns : goal.returns
returns g c =
    let s = c.args.self.now in
    let cs = book s.drawing in
    let k = c.args.k in
    let j = c.args.j in
    let q = c.in_ok-moved.moved in
    let here : c.args.k < length (book c.args.self.now.drawing) = omega (arith, c.if-k-contour_count.false, c.contour_count.ensures.value) in
    let own = c.contour_points-points.ensures in
    let there : c.args.j < length (get_or (book c.args.self.now.drawing) c.args.k []) = omega (arith, c.if-j-points.false, ap (λ (x : List DrawnPoint). length x) own) in
    let fx : SFits w32 c.args.x = c.ranges.x in
    let fy : SFits w32 c.args.y = c.ranges.y in
    let point = (simp to_z-of_z at c.in_ok-moved.ensures.value) ∙ ap (λ (x : List DrawnPoint). admitted (moved_to x j c.args.x c.args.y)) own in
    granted g.R.CornerRule.flat s _ _ _ (move_granted cs k j c.args.x c.args.y q here there point) c.set_point.ensures.book refl refl
    (λ a. moved-records _ _ cs _ k (set (get_or cs k []) j q) _ _ here (length-set (get_or cs k []) j q) c.set_point.ensures.book a c.analyze_contour.ensures.value)
