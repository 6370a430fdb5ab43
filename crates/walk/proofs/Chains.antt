-- The ends that a walk finds, and their u and v once it has gone round.
use Rattle.std.proofs.Common.{◌≡◌, ℕ, zero, suc, ◌<◌, ◌≤◌, true, false, cond, not, ◌⊎◌, List, [], ◌∷◌, ◌++◌, length, Decides, sym, refl, ap, ◌∙◌, subst, inl, inr, arith}
use Rattle.std.specs.List.{ContainsAt}
use Rattle.std.proofs.lemmas.Bool.{cond-true, cond-false, cond_both, cases_Bool, cases_eq, not_from_true, not_from_false, both_ways}
use Rattle.walk.specs.declared.legs.Leg.{Leg}
use Rattle.walk.specs.declared.marks.Mark.{Mark}
use Rattle.walk.specs.Marks.{at, join, stepped, last_end, dealt}
use Rattle.walk.specs.Ends.{mark, first_or, last_or}
use Rattle.walk.proofs.Places.{place, place_lt, place_none, apart}
use Rattle.walk.proofs.Rounds.{round, round_keeps, join_u, join_v, length-join, length-stepped, length-dealt, first_weak}

-- the points that the ending steps come to
unfoldable pub leg_ends : ℕ → ℕ → List Leg → List ℕ
leg_ends n s [] = []
leg_ends n s (l ∷ ls) = cond l.end (place n s (length ls) ∷ leg_ends n s ls) (leg_ends n s ls)

pub ends_more : (n s : ℕ) (l : Leg) (ls : List Leg) → l.end ≡ true → leg_ends n s (l ∷ ls) ≡ place n s (length ls) ∷ leg_ends n s ls
unfolding leg_ends
ends_more n s l ls e = cond-true l.end _ _ e

pub ends_same : (n s : ℕ) (l : Leg) (ls : List Leg) → l.end ≡ false → leg_ends n s (l ∷ ls) ≡ leg_ends n s ls
unfolding leg_ends
ends_same n s l ls e = cond-false l.end _ _ e

-- elements of a list
pub has_first : (x : ℕ) (xs : List ℕ) → ContainsAt (x ∷ xs) x
has_first x xs = (0, omega arith, λ d. refl)

pub has_rest : (x y : ℕ) (xs : List ℕ) → ContainsAt xs x → ContainsAt (y ∷ xs) x
has_rest x y xs (k, h, e) = (suc k, omega arith, e)

pub has_cases : (x y : ℕ) (xs : List ℕ) → ContainsAt (y ∷ xs) x → (y ≡ x) ⊎ ContainsAt xs x
has_cases x y xs (zero, h, e) = inl (e 0)
has_cases x y xs (suc k, h, e) = inr (k, omega arith, e)

pub has_none : (x : ℕ) → ContainsAt [] x → ⊥
has_none x (k, h, e) = omega arith

-- an end is a point that the walk comes to
pub record Come (n s m x : ℕ) : Type 0 where
  pub left : ℕ
  pub less : left < m
  pub is : place n s left ≡ x

pub ends_come : (n s : ℕ) (ls : List Leg) (x : ℕ) → ContainsAt (leg_ends n s ls) x → Come n s (length ls) x
unfolding leg_ends
ends_come n s [] x h = absurd (has_none x h)
ends_come n s (l ∷ ls) x h =
    let later : ContainsAt (leg_ends n s ls) x → Come n s (suc (length ls)) x =
    λ r. let c = ends_come n s ls x r in record { left = c.left; less = omega (arith, c.less); is = c.is } in
    elim (cases_Bool l.end) [
      | inl e ↦
          elim (has_cases x _ _ (subst (λ (es : List ℕ). ContainsAt es x) (ends_more n s l ls e) h)) [
            | inl here ↦ record { left = length ls; less = omega arith; is = here }
            | inr r ↦ later r
          ]
      | inr e ↦ later (subst (λ (es : List ℕ). ContainsAt es x) (ends_same n s l ls e) h)
    ]

-- one step of the round, by whether it ends its sum
round_end : (n s e : ℕ) (l : Leg) (ls : List Leg) (ms : List Mark) → l.end ≡ true
    → round n s e (l ∷ ls) ms
    ≡ round n s (place n s (length ls)) ls (join e (place n s (length ls)) (stepped (place n s (suc (length ls))) (place n s (length ls)) l ms))
unfolding round
round_end n s e l ls ms end = simp end

round-on : (n s e : ℕ) (l : Leg) (ls : List Leg) (ms : List Mark) → l.end ≡ false
    → round n s e (l ∷ ls) ms ≡ round n s e ls (stepped (place n s (suc (length ls))) (place n s (length ls)) l ms)
unfolding round
round-on n s e l ls ms end = simp end

-- where a list is split
pub no_split : (xs ys : List ℕ) (y : ℕ) → [] ≡ xs ++ (y ∷ ys) → ⊥
no_split [] ys y e = let z : ◌≡◌ {A = ℕ} 0 1 = cc in omega arith
no_split (x ∷ xs) ys y e = let z : ◌≡◌ {A = ℕ} 0 1 = cc in omega arith

pub split_first : (j : ℕ) (es xs ys : List ℕ) (y : ℕ) → j ∷ es ≡ xs ++ (y ∷ ys)
    → ((xs ≡ []) × (j ≡ y) × (es ≡ ys)) ⊎ ((xs' : List ℕ) × (xs ≡ j ∷ xs') × (es ≡ xs' ++ (y ∷ ys)))
split_first j es [] ys y e = inl (refl, cc, cc)
split_first j es (x ∷ xs) ys y e = inr (xs, cc, cc)

module _ (n s : ℕ) (in_s : s < n) where
  -- u of the last end is the end that comes next
  u_last : (e : ℕ) (ls : List Leg) (ms : List Mark) → length ms ≡ n → length ls ≤ n → e < n → ((t : ℕ) → t < length ls → place n s t ≡ e → ⊥)
      → (mark (round n s e ls ms) e).u ≡ first_or s (leg_ends n s ls)
  unfolding round leg_ends
  u_last e [] ms long fits in_e past = join_u e s ms (omega arith)
  u_last e (l ∷ ls) ms long fits in_e past =
      let j = place n s (length ls) in
      let st = stepped (place n s (suc (length ls))) j l ms in
      let long' = length-stepped (place n s (suc (length ls))) j l ms in
      elim (cases_Bool l.end) [
        | inl y ↦
            ap (λ (r : List Mark). (mark r e).u) (round_end n s e l ls ms y)
            ∙ round_keeps (λ m. m.u) e n s j ls (join e j st)
            (record {
              leaves = λ _ _ _ _ _. refl;
              comes = λ t h at. absurd (past t (omega arith) at);
              last = λ h. absurd (past (length ls) (omega arith) h);
              start = λ _ _ _. refl;
            })
            ∙ join_u e j st (omega arith)
            ∙ sym (ap (first_or s) (ends_more n s l ls y))
        | inr z ↦
            ap (λ (r : List Mark). (mark r e).u) (round-on n s e l ls ms z)
            ∙ u_last e ls st (omega arith) (omega arith) in_e (λ t h. past t (omega arith))
            ∙ sym (ap (first_or s) (ends_same n s l ls z))
      ]

  -- v of an end is the end before it, u the end after it
  pub chain : (e : ℕ) (ls : List Leg) (ms : List Mark) → length ms ≡ n → length ls ≤ n → (xs ys : List ℕ) (y : ℕ)
      → leg_ends n s ls ≡ xs ++ (y ∷ ys) → (y ≡ s → ⊥)
      → ((mark (round n s e ls ms) y).v ≡ last_or e xs) × ((mark (round n s e ls ms) y).u ≡ first_or s ys)
  unfolding leg_ends
  chain e [] ms long fits xs ys y at ne = absurd (no_split xs ys y at)
  chain e (l ∷ ls) ms long fits xs ys y at ne =
      let j = place n s (length ls) in
      let in-j = place_lt n s (length ls) in_s (omega arith) in
      let once : (t : ℕ) → t < length ls → place n s t ≡ j → ⊥ = λ t h. apart n s t (length ls) in_s h (omega arith) (omega arith) in
      let st = stepped (place n s (suc (length ls))) j l ms in
      let long₁ = length-stepped (place n s (suc (length ls))) j l ms in
      let long₂ = length-join e j st in
      elim (cases_Bool l.end) [
        | inl end ↦
            let r = round_end n s e l ls ms end in
            elim (split_first j (leg_ends n s ls) xs ys y (sym (ends_more n s l ls end) ∙ at)) [
              | inl (none, here, rest) ↦ (
                rw (r, none, ← here)
                    (round_keeps (λ m. m.v) j n s j ls (join e j st)
                    (record {
                      leaves = λ _ _ _ _ _. refl;
                      comes = λ t h k. absurd (once t h k);
                      last = λ _ _ _. refl;
                      start = λ h. absurd (ne (sym here ∙ sym h));
                    })
                    ∙ join_v e j st (omega arith)),
                rw (r, ← here) (u_last j ls (join e j st) (omega arith) (omega arith) in-j once ∙ ap (first_or s) rest),
              )
              | inr (xs', first, rest) ↦ rw (r, first) (chain j ls (join e j st) (omega arith) (omega arith) xs' ys y rest ne)
            ]
        | inr z ↦
            rw (round-on n s e l ls ms z)
            (chain e ls st (omega arith) (omega arith) xs ys y (sym (ends_same n s l ls z) ∙ at) ne)
      ]

  -- s as an end: it is the last
  joined_start : (e : ℕ) (ms : List Mark) → length ms ≡ n → e ≡ s → ((mark (join e s ms) s).v ≡ s) × ((mark (join e s ms) s).u ≡ s)
  joined_start e ms long is = rw is (join_v s s ms (omega arith), join_u s s ms (omega arith))

  last : (ls : List Leg) (ms : List Mark) → length ms ≡ n → suc (length ls) ≤ n → place n s (length ls) ≡ s
      → ((mark (round n s (place n s (length ls)) ls ms) s).v ≡ s) × ((mark (round n s (place n s (length ls)) ls ms) s).u ≡ s)
  unfolding round
  last [] ms long fits here = joined_start (place n s 0) ms long here
  last (l ∷ ls) ms long fits here = absurd (apart n s 0 (suc (length ls)) in_s (omega arith) (omega arith) (omega arith) (place_none n s ∙ sym here))

  pub start_end : (e : ℕ) (ls : List Leg) (ms : List Mark) → length ms ≡ n → length ls ≤ n → ContainsAt (leg_ends n s ls) s
      → ((mark (round n s e ls ms) s).v ≡ s) × ((mark (round n s e ls ms) s).u ≡ s)
  unfolding leg_ends round
  start_end e [] ms long fits h = absurd (has_none s h)
  start_end e (l ∷ ls) ms long fits h =
      let j = place n s (length ls) in
      let st = stepped (place n s (suc (length ls))) j l ms in
      let long₁ = length-stepped (place n s (suc (length ls))) j l ms in
      let long₂ = length-join e j st in
      elim (cases_Bool l.end) [
        | inl end ↦
            rw (round_end n s e l ls ms end)
            (elim (has_cases s j _ (subst (λ (es : List ℕ). ContainsAt es s) (ends_more n s l ls end) h)) [
              | inl here ↦ last ls (join e j st) (omega arith) (omega arith) here
              | inr r ↦ start_end j ls (join e j st) (omega arith) (omega arith) r
            ])
        | inr z ↦
            rw (round-on n s e l ls ms z)
            (start_end e ls st (omega arith) (omega arith) (subst (λ (es : List ℕ). ContainsAt es s) (ends_same n s l ls z) h))
      ]

  -- no end at all
  pub start_none : (ls : List Leg) (ms : List Mark) → length ms ≡ n → length ls ≤ n → leg_ends n s ls ≡ []
      → ((mark (round n s s ls ms) s).v ≡ s) × ((mark (round n s s ls ms) s).u ≡ s)
  unfolding round
  start_none [] ms long fits none = joined_start s ms long refl
  start_none (l ∷ ls) ms long fits none =
      let j = place n s (length ls) in
      let long₁ = length-stepped (place n s (suc (length ls))) j l ms in
      elim (cases_Bool l.end) [
        | inl end ↦ absurd (no_split [] (leg_ends n s ls) j (sym none ∙ ends_more n s l ls end))
        | inr z ↦
            rw (round-on n s s l ls ms z)
            (start_none ls (stepped (place n s (suc (length ls))) j l ms) (omega arith) (omega arith) (sym (ends_same n s l ls z) ∙ none))
      ]

  -- one step more
  pub ends_in : (l : Leg) (ls : List Leg) (x : ℕ) → ContainsAt (leg_ends n s ls) x → ContainsAt (leg_ends n s (l ∷ ls)) x
  unfolding leg_ends
  ends_in l ls x h =
      cond_both l.end _ _ (λ (es : List ℕ). ContainsAt es x) (λ _. has_rest x (place n s (length ls)) (leg_ends n s ls) h) (λ _. h)

  ends_out : (l : Leg) (ls : List Leg) (x : ℕ) → (place n s (length ls) ≡ x → ⊥) → ContainsAt (leg_ends n s (l ∷ ls)) x → ContainsAt (leg_ends n s ls) x
  ends_out l ls x ne h =
      elim (cases_Bool l.end) [
        | inl end ↦
            elim (has_cases x _ _ (subst (λ (es : List ℕ). ContainsAt es x) (ends_more n s l ls end) h)) [ inl here ↦ absurd (ne here) | inr r ↦ r ]
        | inr z ↦ subst (λ (es : List ℕ). ContainsAt es x) (ends_same n s l ls z) h
      ]

  -- a point is not weak exactly where it is an end
  pub ends_strong : (e : ℕ) (ls : List Leg) (ms : List Mark) → length ms ≡ n → length ls ≤ n → (t : ℕ) → t < length ls
      → Decides (not (mark (round n s e ls ms) (place n s t)).weak) (ContainsAt (leg_ends n s ls) (place n s t))
  unfolding round
  ends_strong e [] ms long fits t h = absurd (omega arith)
  ends_strong e (l ∷ ls) ms long fits t h =
      let j = place n s (length ls) in
      let i = place n s (suc (length ls)) in
      let weak = first_weak n s e l ls ms in_s long fits in
      let long' = length-dealt e i j l ms in
      elim (cases_eq t (length ls)) [
        | inl here ↦
            rw here
            (elim (cases_Bool l.end) [
              | inl end ↦
                  let strong : (mark (round n s e (l ∷ ls) ms) j).weak ≡ false = weak ∙ not_from_true l.end end in
                  (λ _. rw (ends_more n s l ls end) (has_first j (leg_ends n s ls)), λ _. not_from_false _ strong)
              | inr z ↦
                  let soft : (mark (round n s e (l ∷ ls) ms) j).weak ≡ true = weak ∙ not_from_false l.end z in (
                    (λ y. absurd (both_ways _ (not_from_true _ soft) y)),
                    λ has.
                        let c = ends_come n s ls j (subst (λ (es : List ℕ). ContainsAt es j) (ends_same n s l ls z) has) in
                        absurd (apart n s c.left (length ls) in_s c.less (omega arith) (omega arith) c.is),
                  )
            ])
        | inr ne ↦
            let before : t < length ls = omega arith in
            let more = ends_strong (last_end e j l) ls (dealt e i j l ms) (omega arith) (omega arith) t before in
            let other : j ≡ place n s t → ⊥ = λ same. apart n s t (length ls) in_s before (omega arith) (omega arith) (sym same) in
            (λ y. ends_in l ls (place n s t) (more.0 y), λ has. more.1 (ends_out l ls (place n s t) other has))
      ]
