use Rattle.std.proofs.Common.{◌≡◌, ◌≤◌, [], drop, vec_len}
use Rattle.drawing.specs.Books.{book}
use Rattle.drawing.specs.Placing.{drawn_from}
use Rattle.drawing.proofs.drawings.Drawing.take_all.Given as goal

abbrev pub invariant-loop-i : goal.invariant-loop-i
invariant-loop-i g l =
    (l.i-end ≤ 2048)
    × (vec_len l.self.points ≡ l.i)
    × (vec_len l.self.contours ≤ l.limit.most)
    × (drawn_from l.limit.most l.limit.beyond (book l.self) (drop l.i (g.S.Source.list l.source)) ≡ drawn_from l.limit.most l.limit.beyond [] (g.S.Source.list l.source))
