use Rattle.std.proofs.Common.{ℕ, refl, ap, ◌∙◌, arith, rules, tests}
use Rattle.walk.specs.Starts.{start_of}
use Rattle.walk.proofs.Backs.{found}
use Rattle.walk.proofs.starts.find_start.Goals as goal

pub next_of-requires : goal.next_of-requires
next_of-requires c =
    rw c.unwrap_or-before.ensures
    (found c.near_limit-near_limit.result c.args.points.now _ (λ x q k. search (rules, tests)) (λ x q k. (search rules, search (rules, tests))) _ _ c.rfind.result refl refl (omega arith) c.rfind.ensures.ran).0

pub returns-clause-value : goal.returns-clause-value
returns-clause-value c =
    (found c.near_limit-near_limit.result c.args.points.now _ (λ x q k. search (rules, tests)) (λ x q k. (search rules, search (rules, tests))) _ _ c.rfind.result refl refl (omega arith) c.rfind.ensures.ran).1
    c.next_of.result (search rules)
    ∙ ap (λ (N : ℕ). start_of N c.args.points.now) c.near_limit-near_limit.ensures.value
