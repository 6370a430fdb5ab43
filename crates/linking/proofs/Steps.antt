-- A pass over the table, step by step.
use Rattle.std.proofs.Common.{◌≡◌, ◌≢◌, ℕ, zero, suc, ◌+◌, ◌<◌, ◌≤◌, Bool, true, false, cond, not, ◌&&◌, eqb, ltb, leb, List, length, set, Some, None, Option, sym, refl, ap, ◌∙◌, subst, ⊎_elim, add-one, arith}
use lib.Signed.{lt_z}
use Rattle.std.proofs.lemmas.List.{length-set, get_or-set_same, get_or-set_other}
use Rattle.std.proofs.lemmas.Bool.{le-ltb, eqb-true, ne_eqb, cases_eq, cases_Bool, both_ways, cond-true, cond-false}
use Rattle.std.proofs.lemmas.Bool.Decides.{nat_tests}
use Rattle.outline.specs.declared.directions.Direction.{Direction}
use Rattle.outline.specs.declared.directions.Direction.TheVariants as dir
use Rattle.outline.specs.declared.directions.Direction.TheVariants.{Right, Left, Up, Down}
use Rattle.segments.specs.declared.tables.Segment.{Segment}
use Rattle.linking.specs.declared.rules.Rule.{Rule}
use Rattle.linking.specs.Rules.{overlap, meets, cost, pair_score, price}
use Rattle.outline.specs.Directions.{code, same, opposite}
use Rattle.linking.specs.Choices.{at, blank, holding, score, worth, ranks_before, ahead, able, ranked, chosen, choice}
use Rattle.linking.specs.Passes.{entry, passed, stage, Shows, offered, met}

-- ---- stores

-- a table with entry i stored shows what it showed, and there what was stored
pub shows_set : (n : ℕ) (F G : ℕ → Segment) (t : List Segment) (i : ℕ) (v : Segment) → i < n → v ≡ G i → ((k : ℕ) → k < n → k ≢ i → F k ≡ G k) → Shows n F t → Shows n G (set t i v)
shows_set n F G t i v l e same h =
    let il : i < length t = omega (arith, h.len) in
    record {
      len = length-set t i v ∙ h.len;
      each = λ k kl. ⊎_elim
          (λ (q : k ≡ i). subst (λ m. at (set t i v) m ≡ G m) (sym q) (get_or-set_same t i v blank il ∙ e))
          (λ (q : k ≢ i). get_or-set_other t i k v blank q ∙ h.each k kl ∙ same k kl q)
          (cases_eq k i);
    }

pub shows_like : (n : ℕ) (F G : ℕ → Segment) (t : List Segment) → ((k : ℕ) → k < n → F k ≡ G k) → Shows n F t → Shows n G t
shows_like n F G t e h = record { len = h.len; each = λ k l. h.each k l ∙ e k l }

-- ---- offers

pub offered-keeps : (g : Segment) (to s : ℕ) → ranks_before s g.score ≡ false → g ≡ offered g to s
offered-keeps g to s h = subst (λ b. g ≡ holding g (cond b s g.score) (cond b (Some to) g.link) g.serif) (sym h) refl

-- the table's test is the order's
pub ahead_is : (s : ℕ → ℕ) (p : ℕ) (o : Option ℕ) → ahead (able s) (ranked s) p o ≡ ltb (s p) (worth s o)
ahead_is s p None = refl
ahead_is s p (Some c) = refl

worth_cond : (s : ℕ → ℕ) (b : Bool) (p : ℕ) (o : Option ℕ) → worth s (cond b (Some p) o) ≡ cond b (s p) (worth s o)
worth_cond s true p o = refl
worth_cond s false p o = refl

-- what is held is never worth more than 32000
pub worth_at_most : (s : ℕ → ℕ) (p : ℕ) → worth s (chosen (ahead (able s) (ranked s)) p) ≤ 32000
worth_at_most s zero = omega arith
worth_at_most s (suc p) =
    let o = chosen (ahead (able s) (ranked s)) p in
    let h = worth_at_most s p in
    rw (worth_cond s (ahead (able s) (ranked s) p o) p o, ahead_is s p o) (grind (arith, nat_tests))

-- one partner more is an offer of that partner
pub advance : (r : Rule) (g : ℕ → Segment) (p k : ℕ) → entry r g (p + 1) k ≡ offered (entry r g p k) p (score r g k p)
advance r g p k =
    let s = score r g k in
    let o = choice r g p k in
    ap (λ m. entry r g m k) (add-one p) ∙
    ap (λ w. holding (g k) w (choice r g (suc p) k) None) (worth_cond s (ahead (able s) (ranked s) p o) p o) ∙
    ap (λ b. holding (g k) (cond b (s p) (worth s o)) (cond b (Some p) o) None) (ahead_is s p o)

-- an offer at 32000 changes nothing
pub idle : (r : Rule) (g : ℕ → Segment) (p k q c : ℕ) → c ≡ 32000 → offered (entry r g p k) q c ≡ entry r g p k
idle r g p k q c e = sym (offered-keeps (entry r g p k) q c (le-ltb c (entry r g p k).score (omega (arith, worth_at_most (score r g k) p))))

-- ---- pairs

-- a pair's score as a number
priced : (r : Rule) (a b : Segment) → price r a b ≡ worth (λ s. s) (pair_score r a b)
priced r a b = elim (meets r a b) as (λ m. cond m (cost r a b) 32000 ≡ worth (λ s. s) (cond m (Some (cost r a b)) None)) [ true ↦ refl | false ↦ refl ]

-- no partner is as an offer at 32000
met-offered : (r : Rule) (g : ℕ → Segment) (p k to : ℕ) (o : Option ℕ) → met (entry r g p k) to o ≡ offered (entry r g p k) to (worth (λ s. s) o)
met-offered r g p k to None = sym (idle r g p k to 32000 refl)
met-offered r g p k to (Some s) = refl

pub price_minor : (r : Rule) (a b : Segment) → same a.dir r.major ≡ false → price r a b ≡ 32000
price_minor r a b e = cond-false (meets r a b) (cost r a b) 32000 (subst (λ x. (x && opposite r.major b.dir && lt_z a.pos.0 b.pos.0 && leb r.threshold (overlap a b)) ≡ false) (sym e) refl)

-- a segment of the major direction is nobody's second
pub same_not_opposed : (m b : Direction) → same b m ≡ true → opposite m b ≡ false
same_not_opposed dir.None b e = ne_eqb 5 (code b) (λ q. omega (arith, eqb-true (code b) 0 e))
same_not_opposed Right b e = ne_eqb 2 (code b) (λ q. omega (arith, eqb-true (code b) 1 e))
same_not_opposed Left b e = ne_eqb 1 (code b) (λ q. omega (arith, eqb-true (code b) 2 e))
same_not_opposed Up b e = ne_eqb 4 (code b) (λ q. omega (arith, eqb-true (code b) 3 e))
same_not_opposed Down b e = ne_eqb 3 (code b) (λ q. omega (arith, eqb-true (code b) 4 e))

pub price_second : (r : Rule) (a b : Segment) → same b.dir r.major ≡ true → price r a b ≡ 32000
price_second r a b e =
    let f : opposite r.major b.dir ≡ false = same_not_opposed r.major b.dir e in
    cond-false (meets r a b) (cost r a b) 32000 (grind (arith, nat_tests))

-- ---- a pass

module _ (r : Rule) (g : ℕ → Segment) (n i : ℕ) where
  -- what segment i has chosen when it has met one more
  pub step_first : (j : ℕ) → same (g i).dir r.major ≡ true → offered (entry r g j i) j (price r (g i) (g j)) ≡ entry r g (j + 1) i
  step_first j m = ap (offered (entry r g j i) j) (sym (cond-true (same (g i).dir r.major) (price r (g i) (g j)) (price r (g j) (g i)) m)) ∙ sym (advance r g j i)

  passed_other : (k : ℕ) → k ≢ i → passed true n i k ≡ passed true n (i + 1) k
  passed_other k ne = grind (arith, nat_tests)

  passed_own : passed true n (i + 1) i ≡ n
  passed_own = grind (arith, nat_tests)

  -- what another has chosen when it has met segment i
  pub step_second : (k : ℕ) → (same (g k).dir r.major ≡ true → k ≢ i) → offered (stage r g n i k) i (price r (g i) (g k)) ≡ stage r g n (i + 1) k
  step_second k d =
      ⊎_elim
      (λ (m : same (g k).dir r.major ≡ true).
      let ne : k ≢ i = d m in
      idle r g (passed (same (g k).dir r.major) n i k) k i (price r (g i) (g k)) (price_second r (g i) (g k) m) ∙
      ap (λ p. entry r g p k) (ap (λ b. passed b n i k) m ∙ passed_other k ne ∙ ap (λ b. passed b n (i + 1) k) (sym m)))
      (λ (m : same (g k).dir r.major ≡ false).
      let s : score r g k i ≡ price r (g i) (g k) = cond-false (same (g k).dir r.major) (price r (g k) (g i)) (price r (g i) (g k)) m in
      rw m (ap (offered (entry r g i k) i) (sym s) ∙ sym (advance r g i k)))
      (cases_Bool (same (g k).dir r.major))

  -- a segment that is not of the major direction has no pass of its own
  pub skip : (k : ℕ) → same (g i).dir r.major ≡ false → stage r g n i k ≡ stage r g n (i + 1) k
  skip k m =
      sym (idle r g (passed (same (g k).dir r.major) n i k) k i (price r (g i) (g k)) (price_minor r (g i) (g k) m)) ∙
      step_second k (λ e q. both_ways (same (g i).dir r.major) m (subst (λ x. same (g x).dir r.major ≡ true) q e))

  -- entry k of the table when the steps below j of pass i are done; entry i waits
  abbrev pub midway : ℕ → ℕ → Segment
  midway j k = cond (ltb k j && not (eqb k i)) (stage r g n (i + 1) k) (stage r g n i k)

  midway-next : (j : ℕ) → midway j j ≡ stage r g n i j
  midway-next j = cond-false (ltb j j && not (eqb j i)) (stage r g n (i + 1) j) (stage r g n i j) (grind (arith, nat_tests))

  -- entry j after its step
  turned : (j : ℕ) → same (g i).dir r.major ≡ true → offered (stage r g n i j) i (price r (g i) (g j)) ≡ midway (j + 1) j
  turned j m =
      ⊎_elim
      (λ (q : j ≡ i).
      let s : price r (g i) (g j) ≡ 32000 = subst (λ x. price r (g i) (g x) ≡ 32000) (sym q) (price_second r (g i) (g i) m) in
      idle r g (passed (same (g j).dir r.major) n i j) j i (price r (g i) (g j)) s ∙ sym (cond-false (ltb j (j + 1) && not (eqb j i)) (stage r g n (i + 1) j) (stage r g n i j) (grind (arith, nat_tests))))
      (λ (q : j ≢ i). step_second j (λ e. q) ∙ sym (cond-true (ltb j (j + 1) && not (eqb j i)) (stage r g n (i + 1) j) (stage r g n i j) (grind (arith, nat_tests))))
      (cases_eq j i)

  -- what segment i holds, and what the table shows, when the steps below j are done
  abbrev pub Met : ℕ → Segment → List Segment → Type 0
  Met j f t = (f ≡ entry r g j i) × Shows n (midway j) t

  -- one step of the pass
  pub met_one : (j : ℕ) (f f' v : Segment) (t : List Segment) → same (g i).dir r.major ≡ true → j < n → Met j f t → f' ≡ met f j (pair_score r f (at t j)) → v ≡ met (at t j) i (pair_score r f (at t j)) → Met (j + 1) f' (set t j v)
  met_one j f f' v t m l h e e' =
      let o = pair_score r f (at t j) in
      let own : at t j ≡ stage r g n i j = h.1.each j l ∙ midway-next j in
      let p : worth (λ s. s) o ≡ price r (g i) (g j) =
      sym (priced r f (at t j)) ∙ ap (λ x. price r x (at t j)) h.0 ∙ ap (price r (entry r g j i)) own in (
        e ∙ ap (λ x. met x j o) h.0 ∙ met-offered r g j i j o ∙ ap (offered (entry r g j i) j) p ∙ step_first j m,
        shows_set n (midway j) (midway (j + 1)) t j v l
            (e' ∙ ap (λ x. met x i o) own ∙ met-offered r g (passed (same (g j).dir r.major) n i j) j i o ∙ ap (offered (stage r g n i j) i) p ∙ turned j m)
            (λ k kl q. ap (λ b. cond b (stage r g n (i + 1) k) (stage r g n i k)) (grind (arith, nat_tests))) h.1,
      )

  -- the pass ends when entry i is stored
  pub met_all : (f : Segment) (t : List Segment) → same (g i).dir r.major ≡ true → i < n → Met n f t → Shows n (stage r g n (i + 1)) (set t i f)
  met_all f t m l h =
      shows_set n (midway n) (stage r g n (i + 1)) t i f l
      (h.0 ∙ ap (λ p. entry r g p i) (sym (ap (λ b. passed b n (i + 1) i) m ∙ passed_own)))
      (λ k kl q. cond-true (ltb k n && not (eqb k i)) (stage r g n (i + 1) k) (stage r g n i k) (grind (arith, nat_tests))) h.1

pub starting : (r : Rule) (g : ℕ → Segment) (n k : ℕ) → holding (g k) 32000 None None ≡ stage r g n 0 k
starting r g n k = ap (λ p. entry r g p k) (elim (same (g k).dir r.major) as (λ m. 0 ≡ passed m n 0 k) [ true ↦ grind (arith, nat_tests) | false ↦ refl ])

pub ending : (r : Rule) (g : ℕ → Segment) (n k : ℕ) → k < n → stage r g n n k ≡ entry r g n k
ending r g n k l = ap (λ p. entry r g p k) (elim (same (g k).dir r.major) as (λ m. passed m n n k ≡ n) [ true ↦ cond-true (ltb k n) n 0 (grind (arith, nat_tests)) | false ↦ refl ])
