use Rattle.std.proofs.Common.{◌≡◌, ◌++◌}
use Rattle.std.specs.List.{between}
use Rattle.drawing.specs.Books.{book}
use Rattle.drawing.proofs.drawings.Drawing.append.Given as goal

abbrev pub invariant-loop-k : goal.invariant-loop-k
invariant-loop-k l = book l.self ≡ book l.initial.self ++ between l.from l.k (book l.other)
