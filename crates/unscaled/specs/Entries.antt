-- What a source means: a list of entries, each a point or a fault.
use Rattle.std.specs.Prelude.{◌≡◌, ℕ, ◌≤◌, Ok, Err, Result}
use Rattle.unscaled.specs.declared.points.UnscaledPoint.{UnscaledPoint}
use Rattle.unscaled.specs.declared.faults.SourceFault.{SourceFault}
use Rattle.unscaled.specs.declared.faults.FaultReason.TheVariants.{PastCount}

abbrev pub Entry : Type 0
Entry = Result UnscaledPoint SourceFault

-- the entry found from the count on, of a source that stands for so many placements
abbrev pub past_count : ℕ → ℕ → Entry
past_count placed i = Err (record { reason = PastCount; index = i; placements = placed })

-- a fault tells the index of its entry, and no more placements than the source stands for
abbrev pub Tells : ℕ → ℕ → Entry → Type 0
Tells placed i (Ok p) = Unit {0}
Tells placed i (Err f) = (f.index ≡ i) × (f.placements ≤ placed)
