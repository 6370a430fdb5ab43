use Rattle.std.proofs.Common.{refl}
use Rattle.segments.specs.Stretches.{segments_of, course}
use Rattle.segments.proofs.laws.tried_stands.Goals as goal

pub returns : goal.returns
unfolding segments_of course
returns c = record { spike = refl; boxed = (refl, refl) }
