-- The words that the card has for its terms.
use Rattle.std.specs.Prelude.{ℕ, Bool, true, false, List, Some, None, codes, decimal, Option}

-- whether a segment is round
abbrev pub round_word : Bool → List ℕ
round_word true = codes "r"
round_word false = codes "-"

-- the index of another segment, or none
abbrev pub index_word : Option ℕ → List ℕ
index_word None = codes "-"
index_word (Some i) = decimal i
