-- The corner rules that a record can ask for.
use Rattle.std.specs.Prelude.{Bool, ℤ}
use Rattle.outline.specs.Corners.{flat_by, taxicab, octagonal}
use Rattle.unscaled.specs.declared.headers.CornerCode.{CornerCode}
use Rattle.unscaled.specs.declared.headers.CornerCode.TheVariants.{Jit, Aot}

-- the meaning of the rule that a code stands for
abbrev pub flat_of : CornerCode → ℤ → ℤ → ℤ → ℤ → Bool
flat_of Jit = flat_by octagonal
flat_of Aot = flat_by taxicab
