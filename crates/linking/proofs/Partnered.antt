-- The rule's test and score say what the words say.
use Rattle.std.proofs.Common.{◌≡◌, ℕ, ◌<◌, ◌≤◌, true, false, ◌&&◌, leb, List, ℤ, pos, negsuc, ◌-ℤ◌, ◌≤ℤ◌, ◌<ℤ◌, sym, ap, ◌∙◌, inl, inr, ⊎_elim, arith}
use lib.Signed.{lt_z}
use borrow.Author.Differences.{lt-true}
use Rattle.std.specs.Int.{int_min, int_max}
use Rattle.std.proofs.lemmas.Int.{ints}
use Rattle.std.proofs.lemmas.Bool.{leb-true, le-leb, eqb-true, eq-eqb, cases_lt, cases_Bool, both_ways, cond-true, cond-false, and_parts, and_from}
use Rattle.outline.proofs.Same.{same_means}
use Rattle.outline.specs.declared.directions.Direction.{Direction}
use Rattle.outline.specs.declared.directions.Direction.TheVariants as dir
use Rattle.outline.specs.declared.directions.Direction.TheVariants.{Right, Left, Up, Down}
use Rattle.segments.specs.declared.tables.Segment.{Segment}
use Rattle.linking.specs.declared.rules.Rule.{Rule}
use Rattle.linking.specs.Rules.{clip, overlap, faces, meets, cost, price}
use Rattle.outline.specs.Directions.{code, same, opposite, Opposite}
use Rattle.linking.specs.Choices.{at, score}
use Rattle.linking.specs.Laws.{Partners, PartnersAt, Chooses}
use Rattle.linking.proofs.Chosen.{FirstLowest}
use Rattle.linking.proofs.Steps.{same_not_opposed}

-- ---- directions

code_small : (d : Direction) → code d < 5
code_small dir.None = omega arith
code_small Right = omega arith
code_small Left = omega arith
code_small Up = omega arith
code_small Down = omega arith

opposite_means : (m b : Direction) → opposite m b ≡ true → Opposite m b
opposite_means dir.None b e = absurd (omega (arith, eqb-true 5 (code b) e, code_small b))
opposite_means Right b e = sym (same_means Left b e)
opposite_means Left b e = sym (same_means Right b e)
opposite_means Up b e = sym (same_means Down b e)
opposite_means Down b e = sym (same_means Up b e)

opposite-told : (m b : Direction) → Opposite m b → opposite m b ≡ true
opposite-told dir.None b e = absurd e
opposite-told Right b e = eq-eqb 2 (code b) (sym (ap code e))
opposite-told Left b e = eq-eqb 1 (code b) (sym (ap code e))
opposite-told Up b e = eq-eqb 4 (code b) (sym (ap code e))
opposite-told Down b e = eq-eqb 3 (code b) (sym (ap code e))

-- ---- distances

clip_up : (z : ℤ) (m : ℕ) → 0 < m → m ≤ clip z → pos m ≤ℤ z
clip_up (pos n) m h l = omega (arith, ints)
clip_up (negsuc n) m h l = absurd (omega arith)

up_clip : (z : ℤ) (m : ℕ) → pos m ≤ℤ z → m ≤ clip z
up_clip (pos n) m l = omega (arith, ints)
up_clip (negsuc n) m l = omega (arith, ints)

beyond_from : (x y : ℤ) → lt_z x y ≡ true → x <ℤ y
beyond_from x y h = omega (arith, ints, lt-true x y h)

from_beyond : (x y : ℤ) → x <ℤ y → lt_z x y ≡ true
from_beyond x y h = grind (arith, ints)

-- ---- partners

module _ (r : Rule) (a b : Segment) where
  pub meets_partners : meets r a b ≡ true → Partners r a b
  meets_partners e =
      let p = and_parts (faces r a b) (leb r.threshold (overlap a b)) e in
      let q = and_parts (same a.dir r.major && opposite r.major b.dir) (lt_z a.pos.0 b.pos.0) p.0 in
      let s = and_parts (same a.dir r.major) (opposite r.major b.dir) q.0 in
      record {
        of_major = same_means a.dir r.major s.0;
        of_opposite = opposite_means r.major b.dir s.1;
        beyond = beyond_from a.pos.0 b.pos.0 q.1;
        overlapping = clip_up (int_min a.max_coord.0 b.max_coord.0 -ℤ int_max a.min_coord.0 b.min_coord.0) r.threshold r.some_overlap (leb-true r.threshold (overlap a b) p.1);
      }

  pub partners_meets : Partners r a b → meets r a b ≡ true
  partners_meets h =
      and_from (faces r a b) (leb r.threshold (overlap a b))
      (and_from (same a.dir r.major && opposite r.major b.dir) (lt_z a.pos.0 b.pos.0)
      (and_from (same a.dir r.major) (opposite r.major b.dir) (eq-eqb (code a.dir) (code r.major) (ap code h.of_major)) (opposite-told r.major b.dir h.of_opposite))
      (from_beyond a.pos.0 b.pos.0 h.beyond))
      (le-leb r.threshold (overlap a b) (up_clip (int_min a.max_coord.0 b.max_coord.0 -ℤ int_max a.min_coord.0 b.min_coord.0) r.threshold h.overlapping))

  price-cost : Partners r a b → price r a b ≡ cost r a b
  price-cost h = cond-true (meets r a b) (cost r a b) 32000 (partners_meets h)

  cost-price : price r a b < 32000 → Partners r a b × (price r a b ≡ cost r a b)
  cost-price l =
      ⊎_elim (λ (e : meets r a b ≡ true). (meets_partners e, cond-true (meets r a b) (cost r a b) 32000 e))
      (λ (e : meets r a b ≡ false). absurd (omega (arith, cond-false (meets r a b) (cost r a b) 32000 e)))
      (cases_Bool (meets r a b))

  second_minor : Partners r a b → same b.dir r.major ≡ false
  second_minor h =
      ⊎_elim (λ (e : same b.dir r.major ≡ true). absurd (both_ways (opposite r.major b.dir) (same_not_opposed r.major b.dir e) (opposite-told r.major b.dir h.of_opposite)))
      (λ (e : same b.dir r.major ≡ false). e)
      (cases_Bool (same b.dir r.major))

module _ (r : Rule) (g : ℕ → Segment) (i k : ℕ) where
  -- the score of partners is the one by the rule
  pub partners_score : (s : ℕ) → PartnersAt r (g i) (g k) s → score r g i k ≡ s
  partners_score s (inl h) = cond-true (same (g i).dir r.major) (price r (g i) (g k)) (price r (g k) (g i)) (eq-eqb (code (g i).dir) (code r.major) (ap code h.0.of_major)) ∙ price-cost r (g i) (g k) h.0 ∙ sym h.1
  partners_score s (inr h) = cond-false (same (g i).dir r.major) (price r (g i) (g k)) (price r (g k) (g i)) (second_minor r (g k) (g i) h.0) ∙ price-cost r (g k) (g i) h.0 ∙ sym h.1

  -- whoever scores below 32000 is a partner
  pub score_partners : score r g i k < 32000 → PartnersAt r (g i) (g k) (score r g i k)
  score_partners l =
      ⊎_elim
      (λ (e : same (g i).dir r.major ≡ true).
      let q : score r g i k ≡ price r (g i) (g k) = cond-true (same (g i).dir r.major) (price r (g i) (g k)) (price r (g k) (g i)) e in
      let two = cost-price r (g i) (g k) (omega (arith, q)) in inl (two.0, q ∙ two.1))
      (λ (e : same (g i).dir r.major ≡ false).
      let q : score r g i k ≡ price r (g k) (g i) = cond-false (same (g i).dir r.major) (price r (g i) (g k)) (price r (g k) (g i)) e in
      let two = cost-price r (g k) (g i) (omega (arith, q)) in inr (two.0, q ∙ two.1))
      (cases_Bool (same (g i).dir r.major))

-- partners are so either way round
pub partners_back : (r : Rule) (a b : Segment) (s : ℕ) → PartnersAt r a b s → PartnersAt r b a s
partners_back r a b s (inl h) = inr h
partners_back r a b s (inr h) = inl h

-- ---- a choice in words

module _ (r : Rule) (n : ℕ) (xs : List Segment) (i j : ℕ) where
  pub lowest_chooses : FirstLowest (score r (at xs) i) n j → Chooses r n xs i j
  lowest_chooses h = record {
    inside = h.inside;
    scored = score r (at xs) i j;
    partner = score_partners r (at xs) i j h.below;
    below = h.below;
    lowest = λ k s l p. omega (arith, partners_score r (at xs) i k s p, h.lowest k l);
    first = λ k s l p. omega (arith, partners_score r (at xs) i k s p, h.first k l);
  }

  -- whoever is no partner scores 32000, and more than a choice
  pub chooses_lowest : Chooses r n xs i j → FirstLowest (score r (at xs) i) n j
  chooses_lowest h =
      let f = score r (at xs) i in
      let e : f j ≡ h.scored = partners_score r (at xs) i j h.scored h.partner in
      record {
        inside = h.inside;
        below = omega (arith, h.below);
        lowest = λ k l. ⊎_elim (λ (q : f k < 32000). omega (arith, h.lowest k (f k) l (score_partners r (at xs) i k q))) (λ (q : 32000 ≤ f k). omega (arith, h.below)) (cases_lt (f k) 32000);
        first = λ k l. ⊎_elim (λ (q : f k < 32000). omega (arith, h.first k (f k) l (score_partners r (at xs) i k q))) (λ (q : 32000 ≤ f k). omega (arith, h.below)) (cases_lt (f k) 32000);
      }
