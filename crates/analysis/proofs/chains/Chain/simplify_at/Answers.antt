use Rattle.analysis.proofs.Passing.{simplified_yes, simplified_no}
use Rattle.analysis.proofs.chains.Chain.simplify_at.Goals as goal

pub returns-then-is_straight-clause-marks : goal.returns-then-is_straight-clause-marks
returns-then-is_straight-clause-marks c =
    simplified_yes _ _ c.args.self.now.marks.now _ _ c.if-is_straight.true c.is_straight.ensures c.bypass.ensures.marks

pub returns-else-is_straight-clause-marks : goal.returns-else-is_straight-clause-marks
returns-else-is_straight-clause-marks c = simplified_no _ _ c.args.self.now.marks.now _ c.if-is_straight.false c.is_straight.ensures
