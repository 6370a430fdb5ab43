-- Answers of sources and of the record's reader, with their faults as the caller's own.
use Rattle.std.specs.Prelude.{◌≡◌, Ok, Err, Result}
use Rattle.outline.specs.declared.units.Settings.{Settings}
use Rattle.unscaled.specs.declared.points.UnscaledPoint.{UnscaledPoint}
use Rattle.unscaled.specs.declared.headers.RecordFault.{RecordFault}
use Rattle.unscaled.specs.Entries.{Entry}
use Rattle.unscaled.specs.Records.{Values}
use Rattle.unscaled_tests.specs.declared.asking.Refusal.{Refusal}
use Rattle.unscaled_tests.specs.declared.asking.Refusal.TheVariants.{Record, Source}

abbrev pub asked : Entry → Result UnscaledPoint Refusal
asked (Ok p) = Ok p
asked (Err fault) = Err (Source fault)

-- an answer with the settings of the header that was read, or with its refusal
abbrev pub Read : Result Settings Refusal → Result Values RecordFault → Type 0
Read (Ok s) (Ok v) = (s.units ≡ v.units) × (s.width ≡ v.width)
Read (Ok s) (Err e) = ⊥
Read (Err f) (Ok v) = ⊥
Read (Err f) (Err e) = f ≡ Record e
