use Rattle.std.proofs.Common.{◌≡◌, ◌-◌, ◌<◌, List, [], length, get_or, refl, ap, ◌∙◌, arith}
use Rattle.std.proofs.lemmas.Result.{err_from_is_err_and}
use Rattle.outline.specs.declared.points.DrawnPoint.{DrawnPoint}
use Rattle.analysis.specs.Outlines.{point_count}
use Rattle.drawing.specs.Books.{book}
use Rattle.drawing.proofs.Held.{points-held}
use Rattle.drawing.proofs.Joined.{parts-count}
use Rattle.sheet.proofs.Outcomes.{granted, not_granted, replace_granted, replace_refused}
use Rattle.sheet.proofs.sheets.Sheet.replace.Goals as goal

pub overflow_sub-held : goal.overflow_sub-held
overflow_sub-held g c =
    let cs = book c.args.self.now.drawing in
    let here : c.args.k < length (book c.args.self.now.drawing) = omega (arith, c.if-k-contour_count.false, c.contour_count.ensures.value) in
    omega (arith, ap (λ (x : List DrawnPoint). length x) c.contour_points.ensures, c.point_count.ensures.value, parts-count cs c.args.k here)

pub returns-in_err-take : goal.returns-in_err-take
returns-in_err-take g c =
    let s = c.args.self.now in
    let here : c.args.k < length (book c.args.self.now.drawing) = omega (arith, c.if-k-contour_count.false, c.contour_count.ensures.value) in
    let held : c.point_count.result - length c.contour_points.result.now ≡ point_count (book c.args.self.now.drawing) - length (get_or (book c.args.self.now.drawing) c.args.k []) =
    omega (arith, ap (λ (x : List DrawnPoint). length x) c.contour_points.ensures, c.point_count.ensures.value) in
    let p = err_from_is_err_and c.from_residual.result c.from_residual.ensures.1 in
    rw (p.1, p.2)
    (not_granted g.R.CornerRule.flat s _ _ _ (replace_refused (book s.drawing) c.args.k here (g.S.Source.list c.args.source.now) _ held _ (rw (c.one.ensures.most, c.one.ensures.beyond) at c.in_err-take.ensures.book))
    (record { drawing = refl; records = refl; settings = refl; rule = refl }) (λ a. a) refl)

pub splice-requires-clause-points : goal.splice-requires-clause-points
splice-requires-clause-points g c =
    omega (arith, c.in_ok-take.ensures.points refl, ap (λ (x : List DrawnPoint). length x) c.contour_points.ensures, c.point_count.ensures.value, points-held c.take.new.self)

pub returns : goal.returns
returns g c =
    let s = c.args.self.now in
    let here : c.args.k < length (book c.args.self.now.drawing) = omega (arith, c.if-k-contour_count.false, c.contour_count.ensures.value) in
    let held : c.point_count.result - length c.contour_points.result.now ≡ point_count (book c.args.self.now.drawing) - length (get_or (book c.args.self.now.drawing) c.args.k []) =
    omega (arith, ap (λ (x : List DrawnPoint). length x) c.contour_points.ensures, c.point_count.ensures.value) in
    granted g.R.CornerRule.flat s _ _ _
    (replace_granted (book s.drawing) c.args.k here (g.S.Source.list c.args.source.now) _ held (book c.take.new.self) _ (rw (c.one.ensures.most, c.one.ensures.beyond) at c.in_ok-take.ensures.book) (c.turn_to_next.ensures.draws ∙ c.splice.ensures))
    refl c.turn_to_next.ensures.settings c.turn_to_next.ensures.rule (λ _. c.turn_to_next.ensures.analysed)
