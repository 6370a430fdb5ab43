-- The law of links in a finished table.
use Rattle.std.specs.Prelude.{ℕ, List}
use Rattle.segments.specs.declared.tables.Segment.{Segment}
use Rattle.linking.specs.declared.rules.Rule.{Rule}
use Rattle.linking.specs.Laws.{Stems}

-- two segments of the finished table are linked exactly when each is the other's first lowest-scoring partner below 32,000;
-- a link is returned; no third has it
abbrev pub Mutual : Rule → ℕ → List Segment → Type 0
Mutual r n ys = Stems r n ys ys
