-- Where a walk round n points from s is, when t steps are left.
use Rattle.std.proofs.Common.{◌≡◌, ℕ, suc, ◌+◌, ◌-◌, ◌<◌, ◌≤◌, cond, leb, ◌⊎◌, inl, inr, arith}
use Rattle.std.proofs.lemmas.Bool.{cond-true, cond-false, cases_lt, le-leb, lt-leb, lt-ltb, le-ltb}
use Rattle.walk.specs.Steps.{following}

unfoldable pub place : ℕ → ℕ → ℕ → ℕ
place n s t = cond (leb t s) (s - t) (s + n - t)

before : (n s t : ℕ) → t ≤ s → place n s t ≡ s - t
unfolding place
before n s t h = cond-true _ _ _ (le-leb t s h)

after : (n s t : ℕ) → s < t → place n s t ≡ s + n - t
unfolding place
after n s t h = cond-false _ _ _ (lt-leb t s h)

-- t steps from there, s is met, perhaps round the end
pub place_is : (n s t : ℕ) → s < n → t ≤ n → (place n s t + t ≡ s) ⊎ (place n s t + t ≡ s + n)
place_is n s t in_s in-t =
    elim (cases_lt s t) [
      | inl h ↦ inr (let e = after n s t h in omega arith)
      | inr h ↦ inl (let e = before n s t h in omega arith)
    ]

pub place_lt : (n s t : ℕ) → s < n → t ≤ n → place n s t < n
place_lt n s t in_s in-t =
    elim (cases_lt s t) [
      | inl h ↦ (let e = after n s t h in omega arith)
      | inr h ↦ (let e = before n s t h in omega arith)
    ]

pub place_none : (n s : ℕ) → place n s 0 ≡ s
place_none n s = let e = before n s 0 (omega arith) in omega arith

pub place-all : (n s : ℕ) → s < n → place n s n ≡ s
place-all n s in_s = let e = after n s n in_s in omega arith

following-on : (n i : ℕ) → i + 1 < n → following n i ≡ i + 1
following-on n i h = cond-true _ _ _ (lt-ltb (i + 1) n h)

following-first : (n i : ℕ) → n ≤ i + 1 → following n i ≡ 0
following-first n i h = cond-false _ _ _ (le-ltb (i + 1) n h)

-- a step further, one step less is left
pub place-next : (n s t : ℕ) → s < n → suc t ≤ n → following n (place n s (suc t)) ≡ place n s t
place-next n s t in_s in-t =
    let here = place_is n s (suc t) in_s in-t in
    let there = place_is n s t in_s (omega arith) in
    let a = place_lt n s (suc t) in_s in-t in
    let b = place_lt n s t in_s (omega arith) in
    elim (cases_lt (place n s (suc t) + 1) n) [
      | inl h ↦ (let e = following-on n (place n s (suc t)) h in
          elim here [ inl x ↦ elim there [ inl y ↦ omega arith | inr y ↦ omega arith ] | inr x ↦ elim there [ inl y ↦ omega arith | inr y ↦ omega arith ] ])
      | inr h ↦ (let e = following-first n (place n s (suc t)) h in
          elim here [ inl x ↦ elim there [ inl y ↦ omega arith | inr y ↦ omega arith ] | inr x ↦ elim there [ inl y ↦ omega arith | inr y ↦ omega arith ] ])
    ]

-- no point is met twice on the way round
pub apart : (n s a b : ℕ) → s < n → a < b → b ≤ n → b < a + n → place n s a ≡ place n s b → ⊥
apart n s a b in_s less in_b round e =
    elim (place_is n s a in_s (omega arith)) [
      | inl x ↦ elim (place_is n s b in_s in_b) [ inl y ↦ omega arith | inr y ↦ omega arith ]
      | inr x ↦ elim (place_is n s b in_s in_b) [ inl y ↦ omega arith | inr y ↦ omega arith ]
    ]

-- each point is met
pub record Placed (n s x : ℕ) : Type 0 where
  pub left : ℕ
  pub less : left < n
  pub is : place n s left ≡ x

pub placed : (n s x : ℕ) → s < n → x < n → Placed n s x
placed n s x in_s in-x =
    elim (cases_lt s x) [
      | inl h ↦ record { left = s + n - x; less = omega arith; is = let e = after n s (s + n - x) (omega arith) in omega arith }
      | inr h ↦ record { left = s - x; less = omega arith; is = let e = before n s (s - x) (omega arith) in omega arith }
    ]

-- and left
pub record Left (n s x : ℕ) : Type 0 where
  pub left : ℕ
  pub less : left < n
  pub is : place n s (suc left) ≡ x

pub left_from : (n s x : ℕ) → s < n → x < n → Left n s x
left_from n s x in_s in-x =
    elim (cases_lt s x) [
      | inl h ↦ record { left = s + n - x - 1; less = omega arith; is = let e = after n s (suc (s + n - x - 1)) (omega arith) in omega arith }
      | inr h ↦
          elim (cases_lt x s) [
            | inl k ↦ record { left = s - x - 1; less = omega arith; is = let e = before n s (suc (s - x - 1)) (omega arith) in omega arith }
            | inr k ↦ record { left = n - 1; less = omega arith; is = let e = after n s (suc (n - 1)) (omega arith) in omega arith }
          ]
    ]
