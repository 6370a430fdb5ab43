-- The numbers of refused readings.
use Rattle.std.specs.Prelude.{ℕ}
use Rattle.segments.specs.declared.faults.BuildFault.{BuildFault}
use Rattle.segments.specs.declared.faults.BuildFault.TheVariants.{TooManySegments}

-- 17: a segment would open while more than 1,000 are held
abbrev pub number : BuildFault → ℕ
number TooManySegments = 17
