use Rattle.std.proofs.Common.{◌∙◌}
use Rattle.sheet.proofs.Spans.{drawing-spans}
use Rattle.sheet.proofs.sheets.Sheet.contours.Goals as goal

pub returns-clause-value : goal.returns-clause-value
returns-clause-value g c = c.contours.ensures.value ∙ drawing-spans c.args.self.now.drawing
