-- The number of each refusal of a reading.
use Rattle.std.specs.Prelude.{ℕ}
use Rattle.segments.specs.Faults.{number as build_number}
use Rattle.reading.specs.declared.faults.ReadFault.{ReadFault}
use Rattle.reading.specs.declared.faults.ReadFault.TheVariants.{TableTooShort, Build}

-- 16: the table is too short; 17: a segment would open while more than 1,000 are held
abbrev pub read_number : ReadFault → ℕ
read_number TableTooShort = 16
read_number (Build f) = build_number f
