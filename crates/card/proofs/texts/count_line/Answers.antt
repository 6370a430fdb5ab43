use Rattle.std.proofs.Common.{arith}
use Rattle.card.proofs.Spaced.{line_size}
use Rattle.card.proofs.texts.count_line.Goals as goal

pub line_of-requires : goal.line_of-requires
line_of-requires c = rw line_size (omega arith)
