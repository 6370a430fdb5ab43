-- Lists mapped by index, and entries moved.
use Rattle.std.proofs.Common.{◌≡◌, ℕ, zero, suc, ◌+◌, List, [], ◌∷◌, length, get_or, ℤ, Ok, Err, MatchResult, sym, refl, ap, ◌∙◌, zero-add, arith}
use Rattle.unscaled.specs.declared.points.UnscaledPoint.{UnscaledPoint}
use Rattle.unscaled.specs.declared.faults.SourceFault.{SourceFault}
use Rattle.std.specs.Result.{result_map_both, IsErrAnd}
use Rattle.unscaled.specs.Faults.{one_more, raised}
use Rattle.unscaled.specs.Entries.{Entry, past_count}
use Rattle.unscaled.specs.Placements.{mapped_from, moved, placed_list}

module _ {X Y : Type 0} (f : ℕ → X → Y) where
  pub length_mapped : (i : ℕ) (xs : List X) → length (mapped_from f i xs) ≡ length xs
  unfolding mapped_from
  length_mapped i [] = refl
  length_mapped i (x ∷ xs) = ap suc (length_mapped (i + 1) xs)

  -- the element at k, and past the end the default, which f takes to the default
  get_or-mapped_from : (i k : ℕ) (xs : List X) (d : X) → get_or (mapped_from f i xs) k (f (i + k) d) ≡ f (i + k) (get_or xs k d)
  unfolding mapped_from
  get_or-mapped_from i k [] d = refl
  get_or-mapped_from i zero (x ∷ xs) d = ap (λ n. f n x) (omega arith)
  get_or-mapped_from i (suc k) (x ∷ xs) d =
      let e : i + 1 + k ≡ i + suc k = omega arith in
      rw e at (get_or-mapped_from (i + 1) k xs d)

  pub get_or_mapped : (k : ℕ) (xs : List X) (d : X) → get_or (mapped_from f 0 xs) k (f k d) ≡ f k (get_or xs k d)
  get_or_mapped k xs d = rw (zero-add k) at (get_or-mapped_from 0 k xs d)

-- what `map_err` makes of an entry: the point, or the fault raised
pub map_err_raised : (e r : Entry) → MatchResult e (λ x. r ≡ Ok x) (λ f. IsErrAnd r (λ y. y ≡ raised f)) → r ≡ result_map_both (λ p. p) raised e
map_err_raised (Ok q) r h = h
map_err_raised (Err f) (Ok q) h = absurd h
map_err_raised (Err f) (Err y) h = ap (λ (a : SourceFault). Err a) h

-- a point that passes the `?` of a placement is moved
pub moved-point : (dx dy : ℤ) (i : ℕ) (e : Entry) (p : UnscaledPoint) → result_map_both (λ q. q) raised e ≡ Ok p → moved dx dy i (Ok p) ≡ moved dx dy i e
moved-point dx dy i (Ok q) p h = let same : p ≡ q = cc in ap (λ (a : UnscaledPoint). moved dx dy i (Ok a)) same
moved-point dx dy i (Err f) p h = let z : ◌≡◌ {A = ℕ} 0 1 = cc in absurd (omega arith)

-- and a fault leaves by it
pub moved_fault : (dx dy : ℤ) (i : ℕ) (e : Entry) (f : SourceFault) → result_map_both (λ q. q) raised e ≡ Err f → Err f ≡ moved dx dy i e
moved_fault dx dy i (Ok q) f h = let z : ◌≡◌ {A = ℕ} 0 1 = cc in absurd (omega arith)
moved_fault dx dy i (Err g) f h = sym h

-- an entry of the list below, moved, is the entry of the placement's list
pub placed-entry : (dx dy : ℤ) (i n : ℕ) (below : List Entry) (e r : Entry) → e ≡ get_or below i (past_count n i) → r ≡ moved dx dy i e → r ≡ get_or (placed_list dx dy below) i (past_count (one_more n) i)
placed-entry dx dy i n below e r told is =
    is ∙ ap (moved dx dy i) told ∙ sym (get_or_mapped (moved dx dy) i below (past_count n i))
