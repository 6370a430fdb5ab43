-- Directions of vectors, by the longer arm (af_direction_compute).
use Rattle.std.specs.Prelude.{◌≡◌, ℕ, ◌*◌, min, max, Bool, cond, ℤ, pos, ◌==◌, int_lt, nat_le, nat_lt, unsigned_abs}
use Rattle.outline.specs.declared.directions.Direction.{Direction}
use Rattle.outline.specs.declared.directions.Direction.TheVariants.{None, Right, Left, Up, Down}

-- the side that the longer arm points to
abbrev pub side : ℤ → ℤ → Direction
side dx dy =
    cond (nat_lt (unsigned_abs dy) (unsigned_abs dx))
    (cond (int_lt dx (pos 0)) Left Right)
    (cond (int_lt dy (pos 0)) Down Up)

-- that side, and None where the longer arm is at most 14 times the shorter
abbrev pub direction : ℤ → ℤ → Direction
direction dx dy =
    cond (nat_le (max (unsigned_abs dx) (unsigned_abs dy)) (14 * min (unsigned_abs dx) (unsigned_abs dy))) None (side dx dy)

-- the other way along the same line; None has no opposite
abbrev pub Opposite : Direction → Direction → Type 0
Opposite None e = ⊥
Opposite Right e = e ≡ Left
Opposite Left e = e ≡ Right
Opposite Up e = e ≡ Down
Opposite Down e = e ≡ Up

-- a number for each direction, and the number of its opposite, by which tests compare them
abbrev pub code : Direction → ℕ
code None = 0
code Right = 1
code Left = 2
code Up = 3
code Down = 4

abbrev pub back : Direction → ℕ
back None = 5
back Right = 2
back Left = 1
back Up = 4
back Down = 3

-- the test of Opposite
abbrev pub opposite : Direction → Direction → Bool
opposite d e = back d == code e

-- the test that two directions are the same
abbrev pub same : Direction → Direction → Bool
same d e = code d == code e

-- the line that a direction lies on: none, level, upright
abbrev pub line : Direction → ℕ
line None = 0
line Right = 1
line Left = 1
line Up = 2
line Down = 2

-- one line for both
abbrev pub SameAxis : Direction → Direction → Type 0
SameAxis d e = line d ≡ line e

-- the test of SameAxis
abbrev pub same_axis : Direction → Direction → Bool
same_axis d e = line d == line e
