use Rattle.std.proofs.Common.{◌≡◌}
use Rattle.segments.proofs.Contours.{SoFar}
use Rattle.segments.proofs.readings.fill.Given as goal

abbrev pub invariant-loop-contour : goal.invariant-loop-contour
invariant-loop-contour l = record {
  same_table : l.filling.table.ghost_name ≡ l.initial.filling.table.ghost_name;
  so_far : SoFar l.fn.dim l.units l.points l.contours l.fn.table l.contour-index l.filling;
}
