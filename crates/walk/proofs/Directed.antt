-- The directions of the steps, once the walk has gone round.
use Rattle.std.proofs.Common.{◌≡◌, ℕ, suc, ◌<◌, ◌≤◌, true, false, List, [], ◌∷◌, ◌++◌, length, sym, refl, ap, ◌∙◌, inl, inr, arith}
use Rattle.std.specs.List.{ContainsAt}
use Rattle.std.proofs.lemmas.Bool.{cond-true, cond-false, cases_Bool, cases_eq, not-true, both_ways}
use Rattle.outline.specs.declared.directions.Direction.{Direction}
use Rattle.outline.specs.declared.directions.Direction.TheVariants.{None}
use Rattle.outline.specs.declared.points.DrawnPoint.{DrawnPoint}
use Rattle.walk.specs.declared.legs.Leg.{Leg}
use Rattle.walk.specs.declared.marks.Mark.{Mark}
use Rattle.walk.specs.Legs.{first_dir, in_sum, spread}
use Rattle.walk.specs.Marks.{last_end, dealt}
use Rattle.walk.specs.Ends.{mark, last_or, direction_to}
use Rattle.walk.proofs.Places.{place, place_none}
use Rattle.walk.proofs.Rounds.{round, length-dealt, first_in, first_weak, first_out}
use Rattle.walk.proofs.Chains.{leg_ends, ends_more, ends_same, ends_in, has_first, split_first, no_split}

-- a step that does not end its sum has the direction of the next one
abbrev pub Level : List Leg → Type 0
Level [] = Unit {0}
Level (l ∷ ls) = (l.end ≡ false → l.dir ≡ first_dir ls) × Level ls

on : (l : Leg) (d : Direction) → (in_sum d l).end ≡ false → (in_sum d l).dir ≡ d
on l d e =
    elim (cases_Bool l.end) [
      | inl y ↦ absurd (both_ways _ e (ap (λ (k : Leg). k.end) (cond-true l.end _ _ y) ∙ y))
      | inr z ↦ ap (λ (k : Leg). k.dir) (cond-false l.end _ _ z)
    ]

pub spread_level : (ls : List Leg) → Level (spread ls)
unfolding spread
spread_level [] = tt
spread_level (l ∷ ls) = (on l (first_dir (spread ls)), spread_level ls)

module _ (n s : ℕ) (in_s : s < n) where
  -- a step has one direction
  pub one-direction : (e : ℕ) (ls : List Leg) (ms : List Mark) → length ms ≡ n → length ls ≤ n → (t : ℕ) → t < length ls
      → (mark (round n s e ls ms) (place n s (suc t))).out_dir ≡ (mark (round n s e ls ms) (place n s t)).in_dir
  unfolding round
  one-direction e [] ms long fits t h = absurd (omega arith)
  one-direction e (l ∷ ls) ms long fits t h =
      let j = place n s (length ls) in
      let i = place n s (suc (length ls)) in
      let long' = length-dealt e i j l ms in
      elim (cases_eq t (length ls)) [
        | inl here ↦ rw here (first_out n s e l ls ms in_s long fits ∙ sym (first_in n s e l ls ms in_s long fits))
        | inr ne ↦ one-direction (last_end e j l) ls (dealt e i j l ms) (omega arith) (omega arith) t (omega arith)
      ]

  -- a sum goes on at a weak point
  pub goes_on : (e : ℕ) (ls : List Leg) (ms : List Mark) → length ms ≡ n → length ls ≤ n → Level ls → (t : ℕ) → suc t < length ls
      → (mark (round n s e ls ms) (place n s (suc t))).weak ≡ true
      → (mark (round n s e ls ms) (place n s (suc t))).out_dir ≡ (mark (round n s e ls ms) (place n s (suc t))).in_dir
  unfolding round
  goes_on e [] ms long fits level t h weak = absurd (omega arith)
  goes_on e (l ∷ []) ms long fits level t h weak = absurd (omega arith)
  goes_on e (l ∷ (k ∷ ls)) ms long fits level t h weak =
      let j = place n s (suc (length ls)) in
      let i = place n s (suc (suc (length ls))) in
      let long' = length-dealt e i j l ms in
      elim (cases_eq t (length ls)) [
        | inl here ↦
            let soft : (mark (round n s e (l ∷ (k ∷ ls)) ms) j).weak ≡ true = rw here at weak in
            let on : l.end ≡ false = not-true l.end (sym (first_weak n s e l (k ∷ ls) ms in_s long fits) ∙ soft) in
            rw here
            (first_out n s (last_end e j l) k ls (dealt e i j l ms) in_s (omega arith) (omega arith)
            ∙ sym (level.0 on) ∙ sym (first_in n s e l (k ∷ ls) ms in_s long fits))
        | inr ne ↦ goes_on (last_end e j l) (k ∷ ls) (dealt e i j l ms) (omega arith) (omega arith) level.1 t (omega arith) weak
      ]

  -- a sum that is not finished
  pub not_finished : (e : ℕ) (l : Leg) (ls : List Leg) (ms : List Mark) → length ms ≡ n → suc (length ls) ≤ n → Level (l ∷ ls)
      → (ContainsAt (leg_ends n s (l ∷ ls)) s → ⊥) → (mark (round n s e (l ∷ ls) ms) s).in_dir ≡ None
  unfolding round
  not_finished e l [] ms long fits level no_end =
      let here = place_none n s in
      elim (cases_Bool l.end) [
        | inl end ↦ absurd (no_end (rw (ends_more n s l [] end, here) (has_first s (leg_ends n s []))))
        | inr z ↦
            ap (λ (x : ℕ). (mark (round n s e (l ∷ []) ms) x).in_dir) (sym here) ∙ first_in n s e l [] ms in_s long fits ∙ level.0 z
      ]
  not_finished e l (k ∷ ls) ms long fits level no_end =
      let j = place n s (suc (length ls)) in
      let i = place n s (suc (suc (length ls))) in
      let long' = length-dealt e i j l ms in
      not_finished (last_end e j l) k ls (dealt e i j l ms) (omega arith) (omega arith) level.1
      (λ h. no_end (ends_in n s in_s l (k ∷ ls) s h))

  module _ (ps : List DrawnPoint) where
    -- a step that ends a sum has the direction of the vector from where the sum began
    abbrev pub Direct : ℕ → List Leg → Type 0
    Direct a [] = Unit {0}
    Direct a (l ∷ ls) = (l.end ≡ true → l.dir ≡ direction_to ps a (place n s (length ls))) × Direct (last_end a (place n s (length ls)) l) ls

    pub comes_in : (e : ℕ) (ls : List Leg) (ms : List Mark) → length ms ≡ n → length ls ≤ n → Direct e ls → (xs ys : List ℕ) (y : ℕ)
        → leg_ends n s ls ≡ xs ++ (y ∷ ys)
        → (mark (round n s e ls ms) y).in_dir ≡ direction_to ps (last_or e xs) y
    unfolding round leg_ends
    comes_in e [] ms long fits direct xs ys y at = absurd (no_split xs ys y at)
    comes_in e (l ∷ ls) ms long fits direct xs ys y at =
        let j = place n s (length ls) in
        let i = place n s (suc (length ls)) in
        let long' = length-dealt e i j l ms in
        let more = comes_in (last_end e j l) ls (dealt e i j l ms) (omega arith) (omega arith) direct.1 in
        elim (cases_Bool l.end) [
          | inl end ↦
              elim (split_first j (leg_ends n s ls) xs ys y (sym (ends_more n s l ls end) ∙ at)) [
                | inl (none, here, rest) ↦ rw (none, ← here) (first_in n s e l ls ms in_s long fits ∙ direct.0 end)
                | inr (xs', first, rest) ↦
                    let began : last_end e j l ≡ j = cond-true l.end j e end in
                    more xs' ys y rest ∙ rw (first, began) refl
              ]
          | inr z ↦
              let began : last_end e j l ≡ e = cond-false l.end j e z in
              more xs ys y (sym (ends_same n s l ls z) ∙ at) ∙ rw began refl
        ]
