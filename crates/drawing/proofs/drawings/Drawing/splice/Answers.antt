use Rattle.drawing.specs.Books.{book}
use Rattle.drawing.proofs.Joined.{front-points, middle-points, rest-points}
use Rattle.drawing.proofs.drawings.Drawing.splice.Goals as goal

pub append-requires-clause-points : goal.append-requires-clause-points
append-requires-clause-points c =
    front-points (book c.args.old.now) (book c.args.new.now) c.args.k c.requires.there c.requires.points _ c.clear.ensures.book

pub append-requires-2-clause-points : goal.append-requires-2-clause-points
append-requires-2-clause-points c =
    middle-points (book c.args.old.now) (book c.args.new.now) c.args.k c.requires.there c.requires.points _ _ c.clear.ensures.book c.append.ensures _
    c.contour_count.ensures.value

pub append-requires-3-clause-points : goal.append-requires-3-clause-points
append-requires-3-clause-points c =
    rest-points (book c.args.old.now) (book c.args.new.now) c.args.k c.requires.there c.requires.points _ _ c.clear.ensures.book c.append.ensures _
    c.contour_count.ensures.value _ c.append-2.ensures _ c.contour_count-2.ensures.value
