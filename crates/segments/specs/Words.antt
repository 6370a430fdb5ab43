-- The word that is printed for an axis.
use Rattle.std.specs.Prelude.{ℕ, List, codes}
use Rattle.segments.specs.declared.measures.Dimension.{Dimension}
use Rattle.segments.specs.declared.measures.Dimension.TheVariants.{Horizontal, Vertical}

-- the axis that is read
abbrev pub axis_word : Dimension → List ℕ
axis_word Horizontal = codes "H"
axis_word Vertical = codes "V"
