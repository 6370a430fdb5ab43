use Rattle.std.proofs.Common.{◌+ℤ◌, ◌-ℤ◌, ◌*ℤ◌, ◌^◌, ◌≤◌, nat_abs, w16, w64, SFits, rules}
use Rattle.std.proofs.lemmas.Int.{to_z-of_z}
use Rattle.analysis.proofs.Products.{product_fits, product_le}
use Rattle.analysis.proofs.areas.area_term.Goals as goal

-- each signed value that was passed on goes to its bits and back: with its fit in scope, `simp to_z-of_z` takes that away
pub overflow_mul-result : goal.overflow_mul-result
overflow_mul-result c =
    let fa : SFits w64 c.from.result = search rules in
    let fb : SFits w64 c.from-2.result = search rules in
    let fc : SFits w64 c.from-3.result = search rules in
    let fd : SFits w64 c.from-4.result = search rules in
    let fs : SFits w64 (c.from.result -ℤ c.from-2.result) = search rules in
    let ft : SFits w64 (c.from-3.result +ℤ c.from-4.result) = search rules in
    simp to_z-of_z (product_fits (c.from.result -ℤ c.from-2.result) (c.from-3.result +ℤ c.from-4.result) (search rules) (search rules))

pub returns : goal.returns
returns c =
    let fa : SFits w64 c.from.result = search rules in
    let fb : SFits w64 c.from-2.result = search rules in
    let fc : SFits w64 c.from-3.result = search rules in
    let fd : SFits w64 c.from-4.result = search rules in
    let fs : SFits w64 (c.from.result -ℤ c.from-2.result) = search rules in
    let ft : SFits w64 (c.from-3.result +ℤ c.from-4.result) = search rules in
    let small : nat_abs (c.from.result -ℤ c.from-2.result) ≤ 2 ^ 16 = search rules in
    let few : nat_abs (c.from-3.result +ℤ c.from-4.result) ≤ 2 ^ 16 = search rules in
    let py : SFits w16 c.args.point.y = search rules in
    let qy : SFits w16 c.args.prev.y = search rules in
    let px : SFits w16 c.args.point.x = search rules in
    let qx : SFits w16 c.args.prev.x = search rules in
    let fp : SFits w64 ((c.from.result -ℤ c.from-2.result) *ℤ (c.from-3.result +ℤ c.from-4.result)) = product_fits (c.from.result -ℤ c.from-2.result) (c.from-3.result +ℤ c.from-4.result) small few in
    rw (to_z-of_z w64 _ fa, to_z-of_z w64 _ fb, to_z-of_z w64 _ fc, to_z-of_z w64 _ fd, to_z-of_z w64 _ fs, to_z-of_z w64 _ ft, to_z-of_z w64 _ fp)
    (record { value = rw (c.from.ensures, c.from-2.ensures, c.from-3.ensures, c.from-4.ensures, to_z-of_z w16 _ py, to_z-of_z w16 _ qy, to_z-of_z w16 _ px, to_z-of_z w16 _ qx) (search rules); bound = product_le (c.from.result -ℤ c.from-2.result) (c.from-3.result +ℤ c.from-4.result) small few })
