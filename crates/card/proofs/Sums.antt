-- Sums over lists, and counts of indices.
use Rattle.std.proofs.Common.{◌≡◌, ℕ, zero, suc, ◌+◌, ◌≤◌, Bool, false, cond, List, [], ◌∷◌, Some, None, Option, sym, refl, ap, inl, inr, arith}
use Rattle.std.proofs.lemmas.Bool.{cases_eq, ne_eqb}
use Rattle.std.proofs.lemmas.List.Sums.{sum_by-cons}
use Rattle.std.specs.List.{count_by, range_with_len, sum_by}
use Rattle.card.specs.Stems.{is_index}

pub sum_plus : {X : Type 0} (f g : X → ℕ) (xs : List X) → sum_by f xs + sum_by g xs ≡ sum_by (λ x. f x + g x) xs
sum_plus f g [] = refl
sum_plus f g (x ∷ xs) = omega (arith, sum_by-cons f x xs, sum_by-cons g x xs, sum_by-cons (λ x. f x + g x) x xs, sum_plus f g xs)

sum_zeros : {X : Type 0} (xs : List X) → sum_by (λ x. 0) xs ≡ 0
sum_zeros [] = refl
sum_zeros {X = X} (x ∷ xs) = omega (arith, sum_by-cons (λ (x : X). 0) x xs, sum_zeros xs)

-- a table of numbers, summed by rows and by columns
pub sum_swap : {X Y : Type 0} (f : X → Y → ℕ) (xs : List X) (ys : List Y)
    → sum_by (λ x. sum_by (f x) ys) xs ≡ sum_by (λ y. sum_by (λ x. f x y) xs) ys
sum_swap f [] ys = sym (sum_zeros ys)
sum_swap f (x ∷ xs) ys =
    let first : sum_by (λ y. sum_by (λ x. f x y) (x ∷ xs)) ys ≡ sum_by (λ y. f x y + sum_by (λ x. f x y) xs) ys =
    λ k. sum_by (λ y. sum_by-cons (λ x. f x y) x xs k) ys in
    omega (arith, sum_by-cons (λ x. sum_by (f x) ys) x xs, sum_swap f xs ys, sum_plus (f x) (λ y. sum_by (λ x. f x y) xs) ys, first)

-- what a test adds to a count
abbrev pub one : Bool → ℕ
one b = cond b 1 0

count_none : (a n : ℕ) (p : ℕ → Bool) → ((k : ℕ) → a ≤ k → p k ≡ false) → count_by p (range_with_len a n) ≡ 0
count_none a zero p h = refl
count_none a (suc n) p h =
    omega (arith, sum_by-cons (λ k. one (p k)) a (range_with_len (a + 1) n), ap one (h a (omega arith)), count_none (a + 1) n p (λ k l. h k (omega arith)))

-- only j can pass, and does not where it is none of the n indices from a on
count_at : (a n j : ℕ) (p : ℕ → Bool) → a ≤ j → ((k : ℕ) → (k ≡ j → ⊥) → p k ≡ false) → (a + n ≤ j → p j ≡ false)
    → count_by p (range_with_len a n) ≡ one (p j)
count_at a zero j p l only past = sym (ap one (past (omega arith)))
count_at a (suc n) j p l only past =
    let f = sum_by-cons (λ k. one (p k)) a (range_with_len (a + 1) n) in
    elim (cases_eq a j) [
      | inl e ↦ omega (arith, f, ap (λ (k : ℕ). one (p k)) e, count_none (a + 1) n p (λ k m. only k (λ f. omega arith)))
      | inr d ↦ omega (arith, f, ap one (only a d), count_at (a + 1) n j p (omega arith) only (λ m. past (omega arith)))
    ]

-- what a test adds at the index that a link names
abbrev pub at_link : Option ℕ → (ℕ → Bool) → ℕ
at_link None p = 0
at_link (Some j) p = one (p j)

-- a test that only the link's index can pass
pub count_link : (o : Option ℕ) (n : ℕ) (p : ℕ → Bool) → ((k : ℕ) → is_index o k ≡ false → p k ≡ false) → ((k : ℕ) → n ≤ k → p k ≡ false)
    → count_by p (range_with_len 0 n) ≡ at_link o p
count_link None n p only past = count_none 0 n p (λ k l. only k refl)
count_link (Some j) n p only past =
    count_at 0 n j p (omega arith) (λ k d. only k (ne_eqb j k (λ e. d (sym e)))) (λ l. past j (omega arith))
