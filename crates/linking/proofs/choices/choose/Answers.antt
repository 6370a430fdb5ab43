use Rattle.std.proofs.Common.{◌≡◌, length, subst, arith}
use Rattle.linking.specs.Choices.{at}
use Rattle.linking.specs.Passes.{Shows, stage}
use Rattle.linking.proofs.Steps.{shows_like, starting, ending}
use Rattle.linking.proofs.choices.choose.Goals as goal

pub loop-i-init : goal.loop-i-init
loop-i-init c =
    let xs = c.args.table.now in
    shows_like (length xs) _ _ c.erase.new.table (λ k l. starting c.args.rule.now (at xs) (length xs) k) c.erase.ensures

pub loop-i-preserved : goal.loop-i-preserved
loop-i-preserved c = c.pass.ensures (length c.args.table.now) (at c.args.table.now) c.loop-i.invariant

pub returns : goal.returns
returns c =
    let xs = c.args.table.now in
    let r = c.args.rule.now in
    let n = length xs in
    let e : c.loop-i.i ≡ n = omega (arith, c.erase.ensures.len) in
    shows_like n _ _ c.loop-i.table (λ k l. ending r (at xs) n k l) (subst (λ i. Shows n (stage r (at xs) n i) c.loop-i.table) e c.loop-i.invariant)
