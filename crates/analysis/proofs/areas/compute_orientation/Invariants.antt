use Rattle.analysis.proofs.Tilings.{Summed}
use Rattle.analysis.proofs.areas.compute_orientation.Given as goal

abbrev pub invariant-loop-contour : goal.invariant-loop-contour
invariant-loop-contour l = Summed l.points l.contours l.area l.contour-index
