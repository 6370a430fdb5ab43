use Rattle.std.proofs.Common.{refl}
use Rattle.outline.specs.Corners.{taxicab, octagonal}
use Rattle.walk.specs.Legs.{cuts, spread}
use Rattle.walk.specs.Marks.{dealt_all, walked}
use Rattle.walk.specs.Starts.{stepped_back, start_of}
use Rattle.walk.specs.Steps.{steps_from}
use Rattle.analysis.specs.Passes.{passed, simplified_at, simplified, checked_at, checked}
use Rattle.analysis.specs.Records.{marks_of, record_at, records, analysed}
use Rattle.segments.specs.Stretches.{segments_of, course}
use Rattle.tried.proofs.tried_stands.Goals as goal

pub returns : goal.returns
unfolding taxicab octagonal cuts spread dealt_all walked stepped_back start_of steps_from passed simplified_at simplified checked_at checked marks_of record_at records analysed segments_of course
returns c = (refl, (refl, (refl, (refl, ((refl, refl), (λ flat. refl, (refl, (refl, (refl, (refl, (refl, (refl, (refl, (refl, tt))))))))))))))
