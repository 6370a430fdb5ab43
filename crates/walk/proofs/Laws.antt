-- What the marks say after the walk.
use Rattle.std.proofs.Common.{◌≡◌, ℕ, zero, suc, ◌<◌, ◌≤◌, true, List, [], ◌∷◌, ◌++◌, length, sym, refl, ap, ◌∙◌, subst, inl, inr, arith}
use Rattle.std.specs.List.{ContainsAt}
use Rattle.std.proofs.lemmas.Bool.{cond_both, ltb-true}
use Rattle.outline.specs.declared.directions.Direction.TheVariants.{None}
use Rattle.outline.specs.declared.points.DrawnPoint.{DrawnPoint}
use Rattle.walk.specs.declared.legs.Leg.{Leg}
use Rattle.walk.specs.declared.marks.Mark.{Mark}
use Rattle.walk.specs.Starts.{start_of}
use Rattle.walk.specs.Legs.{spread}
use Rattle.walk.specs.Marks.{walked, dealt_all}
use Rattle.walk.specs.Ends.{ends_of, ends_from, mark, WalkedRound}
use Rattle.walk.proofs.Places.{place, place-all, place_none, place-next, placed, left_from}
use Rattle.walk.proofs.Rounds.{round, dealt-round}
use Rattle.walk.proofs.Chains.{leg_ends, chain, start_end, start_none, ends_strong}
use Rattle.walk.proofs.Directed.{Level, spread_level, one-direction, goes_on, not_finished, comes_in}
use Rattle.walk.proofs.Vectors.{cuts_vectors, vector_cuts, length-cuts, legs_from, ends_are, direct_are}

-- the walk starts at a point of the contour
pub start_in : (N : ℕ) (ps : List DrawnPoint) → 0 < length ps → start_of N ps < length ps
unfolding start_of
start_in N ps some = cond_both _ _ 0 (λ x. x < length ps) (λ t. ltb-true _ _ t) (λ _. some)

-- a point other than s is met with at least one step left
not_last : (n s x t : ℕ) → place n s t ≡ x → (x ≡ s → ⊥) → (k : ℕ) × (t ≡ suc k)
not_last n s x zero is ne = absurd (ne (sym is ∙ place_none n s))
not_last n s x (suc k) is ne = (k, refl)

-- a sum that is not finished, of any legs
unfinished-at : (n s e : ℕ) (ls : List Leg) (ms : List Mark) → s < n → length ms ≡ n → 0 < length ls → length ls ≤ n → Level ls
    → (ContainsAt (leg_ends n s ls) s → ⊥) → (mark (round n s e ls ms) s).in_dir ≡ None
unfinished-at n s e [] ms in_s long some fits level none = absurd (omega arith)
unfinished-at n s e (l ∷ ls) ms in_s long some fits level none = not_finished n s in_s e l ls ms long fits level none

-- The walk with sums that are vectors, written with the steps that are left.
module _ (N : ℕ) (ps : List DrawnPoint) (some : 0 < length ps) (ms : List Mark) (long : length ms ≡ length ps) where
  in_s : start_of N ps < length ps
  in_s = start_in N ps some

  abbrev legs : List Leg
  legs = legs_from N ps (start_of N ps) in_s (start_of N ps) (length ps)

  abbrev found : List Mark
  found = round (length ps) (start_of N ps) (start_of N ps) legs ms

  long_legs : length legs ≡ length ps
  long_legs = length-cuts N ps (start_of N ps) _ (length ps)

  ends_is : leg_ends (length ps) (start_of N ps) legs ≡ ends_of N ps
  ends_is =
      ends_are N ps (start_of N ps) in_s (start_of N ps) (length ps) (omega arith)
      ∙ ap (λ (i : ℕ). ends_from N ps (start_of N ps) i (length ps)) (place-all (length ps) (start_of N ps) in_s)

  walked_is : walked N ps ms ≡ found
  unfolding walked
  walked_is =
      let n = length ps in
      let s = start_of N ps in
      let all = place-all n s in_s in
      let sums = cuts_vectors N ps s n ∙ ap (λ (i : ℕ). vector_cuts N ps s i n) (sym all) in
      let from : s ≡ place n s (length legs) = sym all ∙ ap (place n s) (sym long_legs) in
      ap (λ (ls : List Leg). dealt_all n s s s (spread ls) ms) sums
      ∙ ap (λ (i : ℕ). dealt_all n s s i legs ms) from
      ∙ dealt-round n s s legs ms in_s (omega (arith, long_legs))

  pub walked-round : (xs : List Mark) → xs ≡ walked N ps ms → WalkedRound N ps xs
  walked-round xs is =
      let n = length ps in
      let s = start_of N ps in
      let all : length legs ≤ length ps = omega (arith, long_legs) in
      let cut : (xs ys : List ℕ) (e : ℕ) → ends_of N ps ≡ xs ++ (e ∷ ys) → leg_ends (length ps) (start_of N ps) legs ≡ xs ++ (e ∷ ys) =
      λ xs ys e at. ends_is ∙ at in
      subst (λ (r : List Mark). WalkedRound N ps r) (sym (is ∙ walked_is))
      (record {
        ends = λ i h.
            let p = placed n s i in_s h in
            rw (← ends_is, ← p.is) (ends_strong n s in_s s legs ms long all p.left (omega (arith, long_legs, p.less)));
        chain = λ xs ys e at ne. chain n s in_s s legs ms long all xs ys e (cut xs ys e at) ne;
        start = λ h.
            elim h [
              | inl has ↦ start_end n s in_s s legs ms long all (rw ends_is has)
              | inr none ↦ start_none n s in_s legs ms long all (ends_is ∙ none)
            ];
        sums = λ xs ys e at. comes_in n s in_s ps s legs ms long all (direct_are N ps s in_s s n (omega arith)) xs ys e (cut xs ys e at);
        unfinished = λ none.
            unfinished-at n s s legs ms in_s long (omega (arith, long_legs)) all (spread_level (vector_cuts N ps s (place n s n) n))
            (λ has. none (rw ends_is at has));
        steps = λ i h.
            let p = left_from n s i in_s h in
            let next = place-next n s p.left in_s p.less in
            rw (← p.is) (one-direction n s in_s s legs ms long all p.left (omega (arith, long_legs, p.less)) ∙ rw next refl);
        passes = λ i h ne weak.
            let p = placed n s i in_s h in
            let k = not_last n s i p.left p.is ne in
            let is : place n s (suc k.0) ≡ i = ap (place n s) (sym k.1) ∙ p.is in
            let soft : (mark found (place n s (suc k.0))).weak ≡ true = ap (λ (x : ℕ). (mark found x).weak) is ∙ weak in
            rw (← is)
            (goes_on n s in_s s legs ms long all (spread_level (vector_cuts N ps s (place n s n) n)) k.0 (omega (arith, long_legs, p.less, k.1)) soft);
      })
