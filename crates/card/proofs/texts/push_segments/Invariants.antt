use Rattle.std.proofs.Common.{◌≡◌, ◌+◌, ◌*◌, ◌≤◌, ◌++◌, drop, string_bytes, string_len, string_capacity}
use Rattle.card.specs.Cards.{segment_lines}
use Rattle.card.proofs.texts.push_segments.Given as goal

abbrev pub invariant-loop-index : goal.invariant-loop-index
invariant-loop-index l =
    (string_bytes l.out ++ segment_lines l.dim l.index (drop l.index l.segments)
    ≡ string_bytes l.initial.out ++ segment_lines l.dim 0 l.segments)
    × (string_len l.out ≤ string_len l.initial.out + 96 * l.index)
    × (string_capacity l.initial.out ≤ string_capacity l.out)
