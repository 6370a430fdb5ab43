use Rattle.drawing.proofs.Tiled.{told-tiles}
use Rattle.drawing.proofs.drawings.Drawing.orientation.Goals as goal

pub compute_orientation-requires : goal.compute_orientation-requires
compute_orientation-requires c =
    (told-tiles _ _ _ _ c.args.self.now.tiled c.points.ensures.len c.contours.ensures.value, c.points.ensures.few)
