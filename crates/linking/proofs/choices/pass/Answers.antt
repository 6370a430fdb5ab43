use Rattle.std.proofs.Common.{◌≡◌, ◌<◌, true, false, sym, ap, ◌∙◌, subst, arith}
use Rattle.std.proofs.lemmas.Bool.{not-false, not-true}
use Rattle.outline.specs.Directions.{same}
use Rattle.segments.specs.declared.tables.Segment.{Segment}
use Rattle.linking.specs.Choices.{at}
use Rattle.linking.proofs.Steps.{shows_like, skip, Met, met_one, met_all}
use Rattle.outline.proofs.Same.{same_is}
use Rattle.linking.proofs.choices.pass.Goals as goal

pub returns-then-ne : goal.returns-then-ne
returns-then-ne c =
    let r = c.args.rule.now in
    let i = c.args.i in
    let m : same (at c.args.table.now i).dir r.major ≡ false = sym (same_is _ _) ∙ not-true _ (sym c.ne.ensures ∙ c.if-ne.true) in
    λ n g h. shows_like n _ _ c.args.table.now (λ k l. skip r g n i k (ap (λ (s : Segment). same s.dir r.major) (sym (h.each i (omega (arith, h.len)))) ∙ m)) h

pub loop-j-preserved : goal.loop-j-preserved
loop-j-preserved c =
    let r = c.args.rule.now in
    let i = c.args.i in
    let j = c.loop-j.j in
    let m : same (at c.args.table.now i).dir r.major ≡ true = sym (same_is _ _) ∙ not-false _ (sym c.ne.ensures ∙ c.if-ne.false) in
    λ n g h.
    let m' : same (g i).dir r.major ≡ true = ap (λ (s : Segment). same s.dir r.major) (sym (h.each i (omega (arith, h.len)))) ∙ m in
    let l : j < n = omega (arith, h.len) in
    met_one r g n i j c.loop-j.first _ _ c.loop-j.table m' l (c.loop-j.invariant n g h) c.meet.ensures.first c.meet.ensures.second

pub returns : goal.returns
returns c =
    let r = c.args.rule.now in
    let i = c.args.i in
    let m : same (at c.args.table.now i).dir r.major ≡ true = sym (same_is _ _) ∙ not-false _ (sym c.ne.ensures ∙ c.if-ne.false) in
    λ n g h.
    let m' : same (g i).dir r.major ≡ true = ap (λ (s : Segment). same s.dir r.major) (sym (h.each i (omega (arith, h.len)))) ∙ m in
    let e : c.loop-j.j ≡ n = omega (arith, h.len) in
    met_all r g n i c.loop-j.first c.loop-j.table m' (omega (arith, h.len)) (subst (λ j. Met r g n i j c.loop-j.first c.loop-j.table) e (c.loop-j.invariant n g h))
