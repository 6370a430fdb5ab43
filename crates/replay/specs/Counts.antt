-- The last line of a report.
use Rattle.std.specs.Prelude.{ℕ, List, ◌++◌, codes, decimal}

-- how many records were compared, and how many of them differ
abbrev pub counts : ℕ → ℕ → List ℕ
counts records differences = decimal records ++ (codes " records, " ++ (decimal differences ++ codes " differences\n"))
