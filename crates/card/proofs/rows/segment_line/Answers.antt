use Rattle.std.proofs.Common.{ap, arith, length}
use Rattle.card.proofs.Spaced.{line_size}
use Rattle.card.proofs.rows.segment_line.Goals as goal

pub line_of-requires : goal.line_of-requires
line_of-requires c = rw line_size (omega arith)

pub returns-clause-bound : goal.returns-clause-bound
returns-clause-bound c = rw (c.line_of.ensures, line_size) (omega (arith, ap length c.number.ensures.value))
