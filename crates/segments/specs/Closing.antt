-- What closing a segment leaves.
use Rattle.std.specs.Prelude.{ℕ, ◌-◌, Bool, false, cond, Some, None, Option, ◌==◌}
use Rattle.segments.specs.declared.states.State.{State}
use Rattle.segments.specs.States.{merged}

-- a segment joins the one before it if it begins at that one's last point
abbrev pub joins : Option State → State → Bool
joins None s = false
joins (Some e) s = e.last == s.first

-- the two in one
abbrev pub merged_into : Option State → State → State
merged_into None s = s
merged_into (Some e) s = merged e s

-- what stands once s has closed after the latest segment
abbrev pub survivor : Option State → State → State
survivor latest s = cond (joins latest s) (merged_into latest s) s

-- the entry that it is written to: the earlier one's, or the next
abbrev pub place_of : ℕ → Option State → State → ℕ
place_of n latest s = cond (joins latest s) (n - 1) n
