use Rattle.sheet.proofs.Alone.{contours-alone}
use Rattle.sheet.proofs.Runs.{history, links_mutual}
use Rattle.sheet.proofs.laws.laws_stand.Goals as goal

pub returns : goal.returns
returns g c = record {
  history = history g.R.CornerRule.flat g.Q.CornerRule.flat;
  stems = links_mutual g.R.CornerRule.flat;
  alone = contours-alone g.R.CornerRule.flat g.Q.CornerRule.flat;
}
