-- What a drawing holds: its contours, each a list of points.
use Rattle.std.specs.Prelude.{vec_items}
use Rattle.drawing.specs.declared.drawings.Drawing.{Drawing}
use Rattle.analysis.specs.Outlines.{Contours, cut_out}

abbrev pub book : Drawing → Contours
book d = cut_out (vec_items d.contours) (vec_items d.points)
