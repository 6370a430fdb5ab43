-- The stems that an entry is in.
use Rattle.std.proofs.Common.{◌≡◌, ℕ, ◌+◌, ◌≤◌, Bool, true, false, ◌&&◌, ltb, List, map, length, is_some, Some, None, Option, sym, refl, ap, ◌∙◌, arith}
use Rattle.std.proofs.lemmas.List.{get_or_past, length-map}
use Rattle.std.proofs.lemmas.Bool.{and_left, and_right, eq-eqb}
use Rattle.std.proofs.lemmas.Bool.Decides.{nat_tests}
use Rattle.std.specs.List.{count_by, sum_by}
use Rattle.segments.specs.declared.tables.Segment.{Segment}
use Rattle.card.specs.Stems.{Halves, Returned, indices, is_index, link_at, opens, opens_to, stem, stem_count}
use Rattle.card.proofs.Sums.{at_link, count_link, one, sum_plus, sum_swap}

kept : (x y : Bool) → y ≡ true → (x && y) ≡ x
kept true y e = e
kept false y e = refl

is_same : (o : Option ℕ) (j : ℕ) → o ≡ Some j → is_index o j ≡ true
is_same o j e = ap (λ (o : Option ℕ). is_index o j) e ∙ eq-eqb j j refl

-- past the table's end there is no link
none_past : (ss : List Segment) (i k : ℕ) → length ss ≤ k → is_index (link_at ss k) i ≡ false
none_past ss i k l = ap (λ (o : Option ℕ). is_index o i) (get_or_past (map (λ s. s.link) ss) k None (rw length-map l))

-- as the earlier of two and as the later, an entry can only be in a stem with its link
earlier : (ss : List Segment) (i : ℕ) → count_by (stem ss i) (indices ss) ≡ at_link (link_at ss i) (stem ss i)
earlier ss i =
    count_link (link_at ss i) (length ss) (stem ss i)
    (λ k e. and_left _ _ (and_right (ltb i k) _ e))
    (λ k l. and_right (ltb i k && is_index (link_at ss i) k) _ (none_past ss i k l))

later : (ss : List Segment) (j : ℕ) → count_by (λ i. stem ss i j) (indices ss) ≡ at_link (link_at ss j) (λ i. stem ss i j)
later ss j =
    count_link (link_at ss j) (length ss) (λ i. stem ss i j)
    (λ k e. and_right (ltb k j && is_index (link_at ss k) j) _ e)
    (λ k l. and_left _ _ (and_right (ltb k j) _ (none_past ss j k l)))

-- an entry opens one stem or none
opens-counts : (ss : List Segment) (i : ℕ) → count_by (stem ss i) (indices ss) ≡ one (opens ss i)
opens-counts ss i = earlier ss i ∙ by (link_at ss i) refl where
  by : (o : Option ℕ) → link_at ss i ≡ o → at_link o (stem ss i) ≡ one (opens_to ss i o)
  by None e = refl
  by (Some j) e = ap (λ (b : Bool). one (b && is_index (link_at ss j) i)) (kept (ltb i j) (is_index (link_at ss i) j) (is_same (link_at ss i) j e))

pub opened : (ss : List Segment) → count_by (opens ss) (indices ss) ≡ stem_count ss
opened ss = sym (λ k. sum_by (λ i. opens-counts ss i k) (indices ss))

-- of two numbers that differ one is less
either_less : (i j : ℕ) → (i ≡ j → ⊥) → one (ltb i j) + one (ltb j i) ≡ 1
either_less i j d = grind (arith, nat_tests)

-- where links are returned, each linked entry is in one stem
both_ways : (ss : List Segment) → Returned ss → (i : ℕ) → count_by (stem ss i) (indices ss) + count_by (λ k. stem ss k i) (indices ss) ≡ one (is_some (link_at ss i))
both_ways ss r i = omega (arith, earlier ss i, later ss i, by (link_at ss i) refl) where
  stem_of : (i j : ℕ) → link_at ss i ≡ Some j → link_at ss j ≡ Some i → stem ss i j ≡ ltb i j
  stem_of i j e f = kept _ _ (is_same (link_at ss j) i f) ∙ kept (ltb i j) _ (is_same (link_at ss i) j e)

  by : (o : Option ℕ) → link_at ss i ≡ o → at_link o (stem ss i) + at_link o (λ k. stem ss k i) ≡ one (is_some o)
  by None e = refl
  by (Some j) e =
      let back = r i j e in
      omega (arith, ap one (stem_of i j e back.0), ap one (stem_of j i back.0 e), either_less i j back.1)

pub halves : (ss : List Segment) → Halves ss (stem_count ss)
halves ss r =
    let rows = λ (i : ℕ). count_by (stem ss i) (indices ss) in
    let columns = λ (j : ℕ). count_by (λ i. stem ss i j) (indices ss) in
    let all : sum_by (λ i. rows i + columns i) (indices ss) ≡ sum_by (λ i. one (is_some (link_at ss i))) (indices ss) =
    λ k. sum_by (λ i. both_ways ss r i k) (indices ss) in
    omega (arith, sum_swap (λ i j. one (stem ss i j)) (indices ss) (indices ss), sum_plus rows columns (indices ss), all)
