-- A choice is the first of the lowest below 32000, and a link a choice that is returned.
use Rattle.std.proofs.Common.{◌≡◌, ℕ, zero, suc, ◌<◌, ◌≤◌, true, false, cond, ◌||◌, ltb, ◌⊎◌, Some, None, Option, sym, refl, ap, ◌∙◌, subst, ⊎_elim, arith}
use Rattle.std.proofs.lemmas.Bool.{lt-ltb, le-ltb, ltb-true, ltb-false, eqb-true, eq-eqb, cases_lt, cases_Bool, both_ways, cond-true, cond-false, or_left, or_right, or_from}
use Rattle.std.proofs.lemmas.Option.{none-some}
use Rattle.linking.specs.Choices.{able, ranked, ahead, worth, chosen}
use Rattle.linking.specs.Links.{picks, returned, paired, link_of, serif_by, serif_of}
use Rattle.linking.proofs.Settling.{cases_option}
use Rattle.linking.proofs.Steps.{ahead_is}

-- among n scores, that of j is the first of the lowest, and below 32000
pub record FirstLowest (s : ℕ → ℕ) (n j : ℕ) : Type 0 where
  pub inside : j < n
  pub below : s j < 32000
  pub lowest : (k : ℕ) → k < n → s j ≤ s k
  pub first : (k : ℕ) → k < j → s j < s k

-- what is held after n: nothing, or the first lowest
abbrev pub Held : (ℕ → ℕ) → ℕ → Option ℕ → Type 0
Held s n None = (k : ℕ) → k < n → 32000 ≤ s k
Held s n (Some j) = FirstLowest s n j

up_to : (s : ℕ → ℕ) (n m : ℕ) → ((k : ℕ) → k < n → m ≤ s k) → m ≤ s n → (k : ℕ) → k < suc n → m ≤ s k
up_to s n m h e k l = ⊎_elim (λ (q : k < n). h k q) (λ (q : n ≤ k). let z : n ≡ k = omega arith in subst (λ i. m ≤ s i) z e) (cases_lt k n)

takes : (s : ℕ → ℕ) (n : ℕ) (h : Option ℕ) → Held s n h → s n < worth s h → FirstLowest s (suc n) n
takes s n None b e = record {
  inside = omega arith;
  below = e;
  lowest = up_to s n (s n) (λ k l. omega (arith, b k l)) (omega arith);
  first = λ k l. omega (arith, b k l);
}
takes s n (Some j) b e = record {
  inside = omega arith;
  below = omega (arith, b.below);
  lowest = up_to s n (s n) (λ k l. omega (arith, b.lowest k l)) (omega arith);
  first = λ k l. omega (arith, b.lowest k l);
}

keeps : (s : ℕ → ℕ) (n : ℕ) (h : Option ℕ) → Held s n h → worth s h ≤ s n → Held s (suc n) h
keeps s n None b e = up_to s n 32000 b e
keeps s n (Some j) b e = record { inside = omega (arith, b.inside); below = b.below; lowest = up_to s n (s j) b.lowest e; first = b.first }

pub held : (s : ℕ → ℕ) (n : ℕ) → Held s n (chosen (ahead (able s) (ranked s)) n)
held s zero = λ k h. absurd (omega arith)
held s (suc n) =
    let h = chosen (ahead (able s) (ranked s)) n in
    let b = ahead (able s) (ranked s) n h in
    let is : b ≡ ltb (s n) (worth s h) = ahead_is s n h in
    ⊎_elim
    (λ (e : b ≡ true). subst (λ x. Held s (suc n) (cond x (Some n) h)) (sym e) (takes s n h (held s n) (ltb-true (s n) (worth s h) (sym is ∙ e))))
    (λ (e : b ≡ false). subst (λ x. Held s (suc n) (cond x (Some n) h)) (sym e) (keeps s n h (held s n) (ltb-false (s n) (worth s h) (sym is ∙ e))))
    (cases_Bool b)

pub chosen_first : (s : ℕ → ℕ) (n j : ℕ) → chosen (ahead (able s) (ranked s)) n ≡ Some j → FirstLowest s n j
chosen_first s n j e = subst (Held s n) e (held s n)

-- there is but one
pub first_chosen : (s : ℕ → ℕ) (n j : ℕ) → FirstLowest s n j → chosen (ahead (able s) (ranked s)) n ≡ Some j
first_chosen s n j h =
    let c = chosen (ahead (able s) (ranked s)) n in
    ⊎_elim
    (λ (e : c ≡ None). let b : Held s n None = subst (Held s n) e (held s n) in absurd (omega (arith, b j h.inside, h.below)))
    (λ (e : (k : ℕ) × (c ≡ Some k)).
    let k = e.0 in
    let b : FirstLowest s n k = chosen_first s n k e.1 in
    let same : k ≡ j =
    ⊎_elim (λ (q : k < j). absurd (omega (arith, b.lowest j h.inside, h.first k q)))
    (λ (q : j ≤ k). ⊎_elim (λ (p : j < k). absurd (omega (arith, h.lowest k b.inside, b.first j p))) (λ (p : k ≤ j). omega arith) (cases_lt j k))
    (cases_lt k j) in
    e.1 ∙ ap Some same)
    (cases_option c)

-- ---- links, of any choice

pub picks_true : (o : Option ℕ) (k : ℕ) → picks o k ≡ true → o ≡ Some k
picks_true None k e = absurd (both_ways false refl e)
picks_true (Some t) k e = ap Some (eqb-true t k e)

pub link_from : (ch : ℕ → Option ℕ) (i j : ℕ) → link_of ch i ≡ Some j → (ch i ≡ Some j) × (ch j ≡ Some i)
link_from ch i j e =
    ⊎_elim
    (λ (p : paired ch i ≡ true).
    let c : ch i ≡ Some j = sym (cond-true (paired ch i) (ch i) None p) ∙ e in
    (c, picks_true (ch j) i (ap (returned ch i) (sym c) ∙ p)))
    (λ (p : paired ch i ≡ false).
    absurd (none-some j (sym (cond-false (paired ch i) (ch i) None p) ∙ e)))
    (cases_Bool (paired ch i))

pub link_to : (ch : ℕ → Option ℕ) (i j : ℕ) → ch i ≡ Some j → ch j ≡ Some i → link_of ch i ≡ Some j
link_to ch i j c d = cond-true (paired ch i) (ch i) None (ap (returned ch i) c ∙ ap (λ o. picks o i) d ∙ eq-eqb i i refl) ∙ c

pub link-back : (ch : ℕ → Option ℕ) (i j : ℕ) → link_of ch i ≡ Some j → link_of ch j ≡ Some i
link-back ch i j e = let two = link_from ch i j e in link_to ch j i two.1 two.0

pub link-alone : (ch : ℕ → Option ℕ) (i j k : ℕ) → link_of ch i ≡ Some j → link_of ch k ≡ Some j → k ≡ i
link-alone ch i j k e f = let a = (link_from ch i j e).1 in let b = (link_from ch k j f).1 in cc

-- ---- serifs, of any choice

pub linked-paired : (ch : ℕ → Option ℕ) (i j : ℕ) → link_of ch i ≡ Some j → paired ch i ≡ true
linked-paired ch i j e = let two = link_from ch i j e in ap (returned ch i) two.0 ∙ ap (λ o. picks o i) two.1 ∙ eq-eqb i i refl

pub unlinked_unpaired : (ch : ℕ → Option ℕ) (i t : ℕ) → ch i ≡ Some t → link_of ch i ≡ None → paired ch i ≡ false
unlinked_unpaired ch i t c e =
    ⊎_elim
    (λ (p : paired ch i ≡ true).
    absurd (none-some t (sym e ∙ cond-true (paired ch i) (ch i) None p ∙ c)))
    (λ (p : paired ch i ≡ false). p)
    (cases_Bool (paired ch i))

-- of an unlinked segment that chose t
serif-read : (ch : ℕ → Option ℕ) (i t : ℕ) → ch i ≡ Some t → link_of ch i ≡ None → serif_of ch i ≡ cond (paired ch t || ltb i t) (ch t) None
serif-read ch i t c e = cond-false (paired ch i) None (serif_by ch i (ch i)) (unlinked_unpaired ch i t c e) ∙ ap (serif_by ch i) c

pub serif-given : (ch : ℕ → Option ℕ) (i t : ℕ) → ch i ≡ Some t → link_of ch i ≡ None → ((u : ℕ) × (link_of ch t ≡ Some u)) ⊎ (i < t) → serif_of ch i ≡ ch t
serif-given ch i t c e w =
    serif-read ch i t c e ∙
    cond-true (paired ch t || ltb i t) (ch t) None
    (⊎_elim (λ (q : (u : ℕ) × (link_of ch t ≡ Some u)). or_left (paired ch t) (ltb i t) (linked-paired ch t q.0 q.1))
    (λ (q : i < t). or_right (paired ch t) (ltb i t) (lt-ltb i t q)) w)

pub serif-withheld : (ch : ℕ → Option ℕ) (i t u : ℕ) → ch i ≡ Some t → link_of ch i ≡ None → ch t ≡ Some u → link_of ch t ≡ None → t ≤ i → serif_of ch i ≡ None
serif-withheld ch i t u c e d f l =
    serif-read ch i t c e ∙
    cond-false (paired ch t || ltb i t) (ch t) None (or_from (paired ch t) (ltb i t) (unlinked_unpaired ch t u d f) (le-ltb i t l))

pub serif-linked : (ch : ℕ → Option ℕ) (i j : ℕ) → link_of ch i ≡ Some j → serif_of ch i ≡ None
serif-linked ch i j e = cond-true (paired ch i) None (serif_by ch i (ch i)) (linked-paired ch i j e)

pub serif-unchosen : (ch : ℕ → Option ℕ) (i : ℕ) → ch i ≡ None → serif_of ch i ≡ None
serif-unchosen ch i c = ap (λ o. cond (returned ch i o) None (serif_by ch i o)) c
