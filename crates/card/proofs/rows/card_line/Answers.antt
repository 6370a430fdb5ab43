use Rattle.std.proofs.Common.{◌≡◌, ℕ, List, ◌++◌, length, drop, decimal, ap, ◌∙◌, arith}
use Rattle.std.proofs.lemmas.Fmt.{length-decimal-le}
use Rattle.card.specs.Lines.{line_of, segment_words}
use Rattle.card.proofs.rows.card_line.Goals as goal

pub returns : goal.returns
returns c =
    let bytes = c.as_bytes-bytes.result.now in
    let i : c.from.result ≡ c.args.index = c.from.ensures in
    let d = length-decimal-le 5 c.args.index (omega arith) (omega arith) (omega arith) in
    let n = ap (λ (n : ℕ). length (decimal n)) i in
    let l = c.as_bytes-bytes.ensures.value ∙ c.as_str.ensures.value in
    let e : bytes ≡ line_of (segment_words c.args.dim c.args.index c.args.segment.now) =
    l ∙ (c.segment_line-line.ensures.bytes ∙ ap (λ (n : ℕ). line_of (segment_words c.args.dim n c.args.segment.now)) i) in
    (omega arith, ap length e, omega (arith, ap length l), ap (λ (w : List ℕ). w ++ drop (length bytes) c.args.buffer.now) (c.copy_from_slice.ensures.after ∙ e))
