use Rattle.std.proofs.Common.{sym, ◌∙◌}
use Rattle.drawing.proofs.Held.{points-held}
use Rattle.drawing.proofs.drawings.Drawing.point_count.Goals as goal

pub returns-clause-value : goal.returns-clause-value
returns-clause-value c = c.len.ensures ∙ sym (points-held c.args.self.now)
