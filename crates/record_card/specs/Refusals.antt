-- The number that is printed of a record that has no card.
use Rattle.std.specs.Prelude.{ℕ}
use Rattle.drawing.specs.Faults as drawing
use Rattle.reading.specs.Faults as reading
use Rattle.unscaled.specs.Faults as unscaled
use Rattle.record_card.specs.declared.refusals.Refusal.{Refusal}
use Rattle.record_card.specs.declared.refusals.Refusal.TheVariants.{Record, Edit, Read}

abbrev pub number : Refusal → ℕ
number (Record f) = unscaled.record_number f
number (Edit f) = drawing.number f
number (Read f) = reading.read_number f
