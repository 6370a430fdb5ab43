use Rattle.std.proofs.Common.{◌+ℤ◌, w64, SFits, rules}
use Rattle.std.proofs.lemmas.Int.{to_z-of_z}
use Rattle.outline.proofs.corners.is_flat_by.Goals as goal

-- each number that was widened is itself
pub returns : goal.returns
returns g c =
    let a = c.args in
    let r = c.ranges in
    let fits : SFits w64 a.in_x × SFits w64 a.in_y × SFits w64 a.out_x × SFits w64 a.out_y = search rules in
    let sums : SFits w64 (a.in_x +ℤ a.out_x) × SFits w64 (a.in_y +ℤ a.out_y) = search rules in
    let d_in = simp (to_z-of_z, r.in_x, r.in_y, fits.0, fits.1) at c.length-d_in.ensures.value in
    let d_out = simp (to_z-of_z, r.out_x, r.out_y, fits.2, fits.3) at c.length-d_out.ensures.value in
    let d_corner = simp (to_z-of_z, r.in_x, r.in_y, r.out_x, r.out_y, fits.0, fits.1, fits.2, fits.3, sums.0, sums.1) at c.length-d_corner.ensures.value in
    let e = c.is_hardly_longer.ensures in
    cc
