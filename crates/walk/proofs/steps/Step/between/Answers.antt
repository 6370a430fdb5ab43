use Rattle.std.proofs.Common.{◌-ℤ◌, w32, SFits, rules}
use Rattle.std.proofs.lemmas.Int.{to_z-of_z}
use Rattle.walk.proofs.steps.Step.between.Goals as goal

-- each number that was passed on goes to its bits and back: with its fit in scope, `simp to_z-of_z` takes that away
pub returns-clause-value : goal.returns-clause-value
returns-clause-value c =
    let a : SFits w32 c.from.result = search rules in
    let b : SFits w32 c.from-2.result = search rules in
    let d : SFits w32 c.from-3.result = search rules in
    let e : SFits w32 c.from-4.result = search rules in
    let f : SFits w32 (c.from.result -ℤ c.from-2.result) = search rules in
    let g : SFits w32 (c.from-3.result -ℤ c.from-4.result) = search rules in
    simp to_z-of_z (search rules)
