use Rattle.std.proofs.Common.{refl, arith}
use Rattle.std.proofs.lemmas.Slice.{between_to_end}
use Rattle.drawing.specs.Books.{book}
use Rattle.drawing.proofs.Held.{points-held}
use Rattle.sheet.proofs.sheets.Sheet.place.Goals as goal

pub append-requires-clause-points : goal.append-requires-clause-points
append-requires-clause-points g c =
    let taken = c.take.new.self in
    let whole = between_to_end (book taken) 0 c.contour_count-count.result (omega (arith, c.contour_count-count.ensures.value)) in
    rw whole (omega (arith, c.in_ok-take.ensures.points refl, c.point_count-held.ensures.value, points-held taken))
