use Rattle.segments.proofs.Alone.{lone-told}
use Rattle.segments.proofs.Begins.{starts-told}
use Rattle.segments.proofs.Extents.{segments-told}
use Rattle.segments.proofs.Walked.{contours_fall}
use Rattle.segments.proofs.laws.segments_stand.Goals as goal

pub returns : goal.returns
returns c = record { starts = starts-told; rows = contours_fall; told = segments-told; lone = lone-told }
