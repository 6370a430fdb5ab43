use Rattle.outline.specs.Units.{near_limit}
use Rattle.analysis.proofs.Tilings.{Written}
use Rattle.analysis.proofs.outlines.analyze_outline.Given as goal

abbrev pub invariant-loop-contour : goal.invariant-loop-contour
invariant-loop-contour g l =
    Written (g.R.CornerRule.flat l.rule) (near_limit l.settings.units) l.points l.contours l.out l.contour-index
