-- A source moved by dx and dy.
use Rattle.std.specs.Prelude.{ℕ, ◌+◌, Bool, cond, ◌&&◌, List, [], ◌∷◌, ℤ, ◌+ℤ◌, Ok, Err, nat_le, unsigned_abs}
use Rattle.unscaled.specs.declared.faults.FaultReason.TheVariants.{MovedOut}
use Rattle.unscaled.specs.Entries.{Entry}
use Rattle.unscaled.specs.Faults.{origin, raised}

-- from -16,383 to 16,383
abbrev pub in_range : ℤ → Bool
in_range z = nat_le (unsigned_abs z) 16383

-- the entry at an index, moved: a point out of range is a fault, and a fault from below stays
abbrev pub moved : ℤ → ℤ → ℕ → Entry → Entry
moved dx dy i (Ok p) =
    cond (in_range (p.x +ℤ dx) && in_range (p.y +ℤ dy))
    (Ok (record { x = p.x +ℤ dx; y = p.y +ℤ dy; kind = p.kind; is_contour_start = p.is_contour_start }))
    (Err (origin MovedOut i))
moved dx dy i (Err f) = Err (raised f)

-- each element by its index, counted from i
unfoldable pub mapped_from : {X Y : Type 0} → (ℕ → X → Y) → ℕ → List X → List Y
mapped_from f i [] = []
mapped_from f i (x ∷ xs) = f i x ∷ mapped_from f (i + 1) xs

-- the list below, each entry moved
abbrev pub placed_list : ℤ → ℤ → List Entry → List Entry
placed_list dx dy below = mapped_from (moved dx dy) 0 below
