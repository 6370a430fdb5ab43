use Rattle.segments.proofs.Alone.{alike_read_same, contours-alone}
use Rattle.segments.proofs.laws.contours_stand_alone.Goals as goal

pub returns : goal.returns
returns c = record { alike = alike_read_same; alone = contours-alone }
