-- Faults of a source, refusals of a record, and the number of each.
use Rattle.std.specs.Prelude.{ℕ, ◌+◌, min}
use Rattle.outline.specs.Units as units
use Rattle.unscaled.specs.declared.faults.FaultReason.{FaultReason}
use Rattle.unscaled.specs.declared.faults.FaultReason.TheVariants.{PastCount, MovedOut, UnknownKind}
use Rattle.unscaled.specs.declared.faults.SourceFault.{SourceFault}
use Rattle.unscaled.specs.declared.headers.RecordFault.{RecordFault}
use Rattle.unscaled.specs.declared.headers.RecordFault.TheVariants.{TooShort, UnknownVersion, WrongLength, PartialPoint, UnknownCorner, Settings}

abbrev pub number : FaultReason → ℕ
number PastCount = 7
number MovedOut = 8
number UnknownKind = 9

abbrev pub record_number : RecordFault → ℕ
record_number TooShort = 3
record_number UnknownVersion = 4
record_number WrongLength = 5
record_number PartialPoint = 5
record_number UnknownCorner = 6
record_number (Settings fault) = units.number fault

-- a fault where it arises: no placement stands above it
abbrev pub origin : FaultReason → ℕ → SourceFault
origin why i = record { reason = why; index = i; placements = 0 }

-- one placement more, 255 for any more
abbrev pub one_more : ℕ → ℕ
one_more n = min (n + 1) 255

-- the fault as a placement above passes it on
abbrev pub raised : SourceFault → SourceFault
raised f = record { reason = f.reason; index = f.index; placements = one_more f.placements }
