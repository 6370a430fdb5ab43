use Rattle.std.proofs.Common.{◌≡◌, ◌+◌, ℕ, length, ap, ◌∙◌, arith, rules}
use Rattle.std.proofs.lemmas.Iterator.{YieldsList-from_range}
use Rattle.std.proofs.lemmas.Iterator.Consumers.{YieldsList-from_filter, count_from_yields_List}
use Rattle.std.proofs.lemmas.List.Sums.{length-filter}
use Rattle.card.specs.Stems.{indices, opens, stem_count}
use Rattle.card.proofs.Paired.{halves, opened}
use Rattle.card.proofs.stems.stem_count.Goals as goal

counted : (c : goal.After-count) → c.count.result ≡ stem_count c.args.segments.now
counted c =
    let ss = c.args.segments.now in
    count_from_yields_List c.filter.result c.count.result c.count.ensures.ran
    (YieldsList-from_filter _ (opens ss) (YieldsList-from_range 0 (length ss) (length ss) c.filter.ensures.source (omega arith)) c.filter.ensures.closure (λ i b q k. search rules))
    ∙ (length-filter (opens ss) (indices ss) ∙ opened ss)

pub returns-clause-value : goal.returns-clause-value
returns-clause-value c = counted c

pub returns-clause-halves : goal.returns-clause-halves
returns-clause-halves c = λ h. ap (λ (n : ℕ). n + n) (counted c) ∙ halves c.args.segments.now h
