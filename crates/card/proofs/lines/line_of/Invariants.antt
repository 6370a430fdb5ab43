use Rattle.std.proofs.Common.{◌≡◌, take}
use Rattle.card.proofs.Spaced.{words_after}
use Rattle.card.proofs.lines.line_of.Given as goal

abbrev pub invariant-loop-word : goal.invariant-loop-word
invariant-loop-word l = l.line.bytes ≡ words_after (λ w. w.bytes) l.first (take l.word-index l.rest)
