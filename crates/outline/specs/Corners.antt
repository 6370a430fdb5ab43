-- When a corner counts as flat: the way round it is hardly longer than the way across.
use Rattle.std.specs.Prelude.{◌≡◌, ℕ, ◌+◌, ◌*◌, ◌/◌, min, max, Bool, ℤ, pos, negsuc, ◌+ℤ◌, ◌-ℤ◌, ◌≤ℤ◌, int_lt, unsigned_abs}

-- in + out - across < across >> 4
abbrev pub hardly_longer : ℕ → ℕ → ℕ → Bool
hardly_longer inward outward across = int_lt ((pos inward +ℤ pos outward) -ℤ pos across) (pos (across / 16))

-- h(in) + h(out) - h(in + out) < h(in + out) >> 4, for a length h (ft_corner_is_flat)
abbrev pub flat_by : (ℤ → ℤ → ℕ) → ℤ → ℤ → ℤ → ℤ → Bool
flat_by h ix iy ox oy = hardly_longer (h ix iy) (h ox oy) (h (ix +ℤ ox) (iy +ℤ oy))

-- |x| + |y|: the length of Aot, which is ttfautohint's
unfoldable pub taxicab : ℤ → ℤ → ℕ
taxicab x y = unsigned_abs x + unsigned_abs y

-- the larger of |x| and |y|, plus three eighths of the smaller: the length of Jit, which is FreeType's (FT_HYPOT)
unfoldable pub octagonal : ℤ → ℤ → ℕ
octagonal x y = max (unsigned_abs x) (unsigned_abs y) + 3 * min (unsigned_abs x) (unsigned_abs y) / 8

-- a signed 32-bit number: from -2,147,483,648 to 2,147,483,647
abbrev pub Signed32 : ℤ → Type 0
Signed32 z = (negsuc 2147483647 ≤ℤ z) × (z ≤ℤ pos 2147483647)

-- two corner rules have one meaning: equal answers for every four signed 32-bit numbers
abbrev pub SameMeaning : (ℤ → ℤ → ℤ → ℤ → Bool) → (ℤ → ℤ → ℤ → ℤ → Bool) → Type 0
SameMeaning F G = (a b c d : ℤ) → Signed32 a → Signed32 b → Signed32 c → Signed32 d → F a b c d ≡ G a b c d
