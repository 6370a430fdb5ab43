use Rattle.std.proofs.Common.{arith}
use Rattle.drawing.proofs.Held.{points-held}
use Rattle.drawing.proofs.Tiled.{told-tiles}
use Rattle.drawing.proofs.drawings.Drawing.analyze.Goals as goal

pub analyze_outline-requires : goal.analyze_outline-requires
analyze_outline-requires g c =
    let len = c.points.ensures.len in
    let held = points-held c.args.self.now in
    record {
      tiles = (told-tiles _ _ _ _ c.args.self.now.tiled len c.contours.ensures.value, c.points.ensures.few);
      legs_len = (omega (arith, len, c.requires.legs, held), (omega (arith, len, c.requires.marks, held), omega (arith, len, c.requires.out, held)));
    }
