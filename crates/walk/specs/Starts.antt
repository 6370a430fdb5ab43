-- Where the walk starts: s is found by stepping back from the first point over short steps (af_glyph_hints_reload).
use Rattle.std.specs.Prelude.{ℕ, zero, suc, ◌+◌, ◌*◌, Bool, cond, ◌&&◌, List, length, nat_lt}
use Rattle.outline.specs.declared.points.DrawnPoint.{DrawnPoint}
use Rattle.walk.specs.Steps.{leaving, taxicab}

-- the step that leaves point i is below 2 N - 1 in |dx| + |dy|; no step is where N is 0
abbrev pub is_short : ℕ → List DrawnPoint → ℕ → Bool
is_short N ps i = nat_lt (taxicab (leaving ps i) + 1) (2 * N)

-- the predecessor i is not the first point, and the step from it is short
abbrev pub goes_back : ℕ → List DrawnPoint → ℕ → Bool
goes_back N ps i = nat_lt 0 i && is_short N ps i

-- where stepping back from a point ends; the count of the points stands for the first point
unfoldable pub stepped_back : ℕ → List DrawnPoint → ℕ → ℕ
stepped_back N ps zero = zero
stepped_back N ps (suc i) = cond (goes_back N ps i) (stepped_back N ps i) (suc i)

-- the count of n points stands for the first point
abbrev pub wrap : ℕ → ℕ → ℕ
wrap n i = cond (nat_lt i n) i 0

-- s, the point where the walk starts
unfoldable pub start_of : ℕ → List DrawnPoint → ℕ
start_of N ps = wrap (length ps) (stepped_back N ps (length ps))
