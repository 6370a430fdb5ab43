use Rattle.std.proofs.Common.{◌+◌, ◌≤◌, length, ap, ◌∙◌, arith, rules}
use Rattle.card.proofs.Spaced.{line_length, word_more, word_room, words_all, words_length}
use Rattle.card.proofs.lines.line_of.Goals as goal

pub push_str-requires : goal.push_str-requires
push_str-requires c =
    let h : length c.new-line.result.bytes + length c.args.first.now ≤ 96 =
    omega (arith, ap length c.new-line.ensures, line_length (λ w. w.bytes) c.args.first.now c.args.rest.now) in
    (search rules, h)

pub push_str-requires-in-loop-word : goal.push_str-requires-in-loop-word
push_str-requires-in-loop-word c =
    let h : length c.loop-word.line.bytes + 1 ≤ 96 =
    omega (arith, ap length c.loop-word.invariant, word_room (λ w. w.bytes) c.args.first.now c.args.rest.now c.loop-word.word-index c.word-item.result (omega arith)) in
    (search rules, h)

pub push_str-requires-in-loop-word-2 : goal.push_str-requires-in-loop-word-2
push_str-requires-in-loop-word-2 c =
    let h : length c.push_str-in-loop-word.new.self.bytes + length c.as_str.result.now ≤ 96 =
    omega (
      arith,
      ap length c.loop-word.invariant,
      ap length c.as_str.ensures.value,
      ap (λ w. length w.bytes) c.word-item.is,
      word_room (λ w. w.bytes) c.args.first.now c.args.rest.now c.loop-word.word-index c.word-item.result (omega arith),
    ) in
    (search rules, h)

pub loop-word-preserved : goal.loop-word-preserved
loop-word-preserved c =
    word_more (λ w. w.bytes) c.args.first.now c.args.rest.now c.loop-word.word-index c.word-item.result _ _ _ _ (omega arith) c.word-item.is
    c.loop-word.invariant c.push_str-in-loop-word.ensures.bytes c.as_str.ensures.value c.push_str-in-loop-word-2.ensures.bytes

pub push_str-requires-2 : goal.push_str-requires-2
push_str-requires-2 c =
    let h : length c.loop-word.line.bytes + 1 ≤ 96 =
    omega (arith, words_length (λ w. w.bytes) c.args.first.now c.args.rest.now c.loop-word.word-index _ (omega arith) c.loop-word.invariant) in
    (search rules, h)

pub returns : goal.returns
returns c =
    c.push_str-2.ensures.bytes
    ∙ words_all (λ w. w.bytes) c.args.first.now c.args.rest.now c.loop-word.word-index _ (omega arith) c.loop-word.invariant
