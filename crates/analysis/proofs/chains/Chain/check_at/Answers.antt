use Rattle.analysis.proofs.Passing.{checked_step}
use Rattle.analysis.proofs.chains.Chain.check_at.Goals as goal

pub returns-clause-marks : goal.returns-clause-marks
returns-clause-marks g c = checked_step _ _ _ c.args.self.now.marks.now _ _ c.judge-verdict.ensures c.apply_verdict.ensures.marks
