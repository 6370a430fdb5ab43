use Rattle.std.proofs.Common.{◌≡◌, sym, ◌∙◌, w32, SFits, rules}
use Rattle.std.proofs.lemmas.Int.{to_z-of_z}
use Rattle.std.proofs.lemmas.Result.{err_from_is_err_and}
use Rattle.std.specs.Result.{result_map_both}
use Rattle.unscaled.specs.Faults.{raised}
use Rattle.unscaled.proofs.Moves.{moved-point, moved_fault, placed-entry, map_err_raised}
use Rattle.unscaled.proofs.placements.PlacementSource.entry.Goals as goal

pub returns-in_err-point-clause-value : goal.returns-in_err-point-clause-value
returns-in_err-point-clause-value g c =
    let self = c.args.self.now in
    let p = err_from_is_err_and c.from_residual.result c.from_residual.ensures.1 in
    let m : c.map_err.result ≡ result_map_both (λ q. q) raised c.entry.result = map_err_raised _ _ c.map_err.ensures.cases in
    let is = moved_fault self.dx self.dy c.args.index c.entry.result _ (sym m ∙ c.in_err-point.was) in
    rw (p.1, p.2) (placed-entry self.dx self.dy c.args.index _ _ c.entry.result _ c.entry.ensures.value is)

pub returns-clause-value : goal.returns-clause-value
returns-clause-value g c =
    let self = c.args.self.now in
    let fx : SFits w32 c.args.self.now.dx = search rules in
    let fy : SFits w32 c.args.self.now.dy = search rules in
    let m : c.map_err.result ≡ result_map_both (λ q. q) raised c.entry.result = map_err_raised _ _ c.map_err.ensures.cases in
    let is = moved-point self.dx self.dy c.args.index c.entry.result _ (sym m ∙ c.in_ok-point.was) in
    placed-entry self.dx self.dy c.args.index _ _ c.entry.result _ c.entry.ensures.value (simp to_z-of_z at c.move_point.ensures ∙ is)
