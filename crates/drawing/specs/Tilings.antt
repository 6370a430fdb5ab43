-- Contours that cover points one after another, as an invariant holds it.
use Rattle.std.specs.Prelude.{ℕ, Bool, ◌&&◌, List, [], ◌∷◌, ◌==◌, nat_lt}
use Rattle.outline.specs.declared.contours.Contour.{Contour}

-- the contours have at least one point each, and lie one after another from point b up to point n
abbrev pub tiles : ℕ → ℕ → List Contour → Bool
tiles b n [] = b == n
tiles b n (c ∷ cs) = (c.first == b && nat_lt c.first c.end) && tiles c.end n cs
