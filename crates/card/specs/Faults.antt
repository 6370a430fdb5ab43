-- The number of each refusal.
use Rattle.std.specs.Prelude.{ℕ}
use Rattle.card.specs.declared.faults.CardFault.{CardFault}
use Rattle.card.specs.declared.faults.CardFault.TheVariants.{BufferTooShort}

abbrev pub number : CardFault → ℕ
number BufferTooShort = 18
