-- The finished table, and its law.
use Rattle.std.proofs.Common.{◌≡◌, ℕ, zero, suc, ◌+◌, ◌-◌, ◌<◌, ◌≤◌, ◌++◌, cond, ltb, ◌⊎◌, List, length, take, drop, Some, None, Option, sym, refl, ap, ◌∙◌, subst, inl, inr, ⊎_elim, add-one, arith}
use mathlib.Core.Path.{fun_ext}
use Rattle.std.proofs.lemmas.Bool.{lt-ltb, le-ltb, cases_lt, cond-true, cond-false}
use Rattle.std.proofs.lemmas.Option.{none-some}
use Rattle.std.proofs.lemmas.List.{get_or_past, get_or-take, get_or-drop, get_or_append_left, get_or-append_right, length-append, length-drop, length-take-le}
use Rattle.std.proofs.lemmas.List.FromFn.{fill_by_all, get_or-map-range_with_len, length-map-range_with_len}
use Rattle.segments.specs.declared.tables.Segment.{Segment}
use Rattle.linking.specs.declared.rules.Rule.{Rule}
use Rattle.linking.specs.Choices.{at, blank, holding, score, worth, choice}
use Rattle.linking.specs.Links.{among, link_of, serif_of, finished, linked_table}
use Rattle.linking.specs.Passes.{entry, Shows, offered, settled, held_choice, Unsettled}
use Rattle.linking.specs.Laws.{PartnersAt, Chooses, ChoosesNone, Stems, Scores, Linked, Serifs, SameUnlinked, Linking}
use Rattle.linking.proofs.Steps.{advance}
use Rattle.linking.proofs.Settling.{cases_option}
use Rattle.linking.proofs.Partnered.{lowest_chooses, chooses_lowest, partners_score, partners_back}
use Rattle.linking.proofs.Chosen.{Held, held, chosen_first, first_chosen, link_from, link_to, link-back, link-alone, serif-given, serif-withheld, serif-linked, serif-unchosen}

among_alike : (n : ℕ) (f h : ℕ → Option ℕ) → ((k : ℕ) → k < n → f k ≡ h k) → among n f ≡ among n h
among_alike n f h e = fun_ext (λ k.
    ⊎_elim
    (λ (l : k < n). ap (λ o. cond (ltb k n) o None) (e k l))
    (λ (l : n ≤ k). cond-false (ltb k n) (f k) None (le-ltb k n l) ∙ sym (cond-false (ltb k n) (h k) None (le-ltb k n l)))
    (cases_lt k n))

-- ---- a table that is linked whole

module _ (r : Rule) (xs t u : List Segment) (h : Shows (length xs) (entry r (at xs) (length xs)) t) where
  same-choice : held_choice t ≡ among (length xs) (choice r (at xs) (length xs))
  same-choice =
      ap (λ m. among m (λ k. (at t k).link)) h.len ∙
      among_alike (length xs) (λ k. (at t k).link) (choice r (at xs) (length xs)) (λ k l. ap (λ (s : Segment). s.link) (h.each k l))

  -- settled, it is the linked table
  pub settled_linked : Shows (length t) (settled (held_choice t) (at t)) u → u ≡ linked_table r (length xs) xs
  settled_linked w =
      let n = length xs in
      let ch = among n (choice r (at xs) n) in
      fill_by_all (λ k. cond (ltb k n) (finished r (at xs) n k) (at xs k)) u n blank (w.len ∙ h.len)
      (λ k l.
      w.each k (omega (arith, h.len)) ∙ ap (λ c. settled c (at t) k) same-choice ∙ ap (λ (s : Segment). holding s s.score (link_of ch k) (serif_of ch k)) (h.each k l) ∙
      sym (cond-true (ltb k n) (finished r (at xs) n k) (at xs k) (lt-ltb k n l)))

pub unsettled : (r : Rule) (xs t : List Segment) → Shows (length xs) (entry r (at xs) (length xs)) t → Unsettled t
unsettled r xs t h = record {
  within = λ k j l e.
      let kl : k < length xs = omega (arith, h.len) in
      omega (arith, h.len, (chosen_first (score r (at xs) k) (length xs) j (sym (ap (λ (s : Segment). s.link) (h.each k kl)) ∙ e)).inside);
  none = λ k l. ap (λ (s : Segment). s.serif) (h.each k (omega (arith, h.len)));
}

-- ---- the entries of a linked table

module _ (r : Rule) (n : ℕ) (xs : List Segment) where
  length-linked : length (linked_table r n xs) ≡ length xs
  length-linked = length-map-range_with_len (λ k. cond (ltb k n) (finished r (at xs) n k) (at xs k)) 0 (length xs)

  at_linked : (k : ℕ) → n ≤ length xs → k < n → at (linked_table r n xs) k ≡ finished r (at xs) n k
  at_linked k fits l =
      get_or-map-range_with_len (λ k. cond (ltb k n) (finished r (at xs) n k) (at xs k)) 0 (length xs) k k blank (omega arith) (omega arith) ∙
      cond-true (ltb k n) (finished r (at xs) n k) (at xs k) (lt-ltb k n l)

  at_rest : (k : ℕ) → n ≤ k → at (linked_table r n xs) k ≡ at xs k
  at_rest k l =
      ⊎_elim
      (λ (q : k < length xs).
      get_or-map-range_with_len (λ k. cond (ltb k n) (finished r (at xs) n k) (at xs k)) 0 (length xs) k k blank q (omega arith) ∙
      cond-false (ltb k n) (finished r (at xs) n k) (at xs k) (le-ltb k n l))
      (λ (q : length xs ≤ k). get_or_past (linked_table r n xs) k blank (omega (arith, length-linked)) ∙ sym (get_or_past xs k blank q))
      (cases_lt k (length xs))

-- ---- only the first n matter

module _ (r : Rule) (g f : ℕ → Segment) (n : ℕ) (alike : (k : ℕ) → k < n → g k ≡ f k) where
  entry_alike : (p k : ℕ) → p ≤ n → k < n → entry r g p k ≡ entry r f p k
  entry_alike zero k m l = ap (λ (s : Segment). holding s 32000 None None) (alike k l)
  entry_alike (suc p) k m l =
      let pl : p < n = omega arith in
      let same : score r g k p ≡ score r f k p = rw (alike k l, alike p pl) refl in
      sym (ap (λ m. entry r g m k) (add-one p)) ∙ advance r g p k ∙
      ap (λ e. offered e p (score r g k p)) (entry_alike p k (omega arith) l) ∙ ap (offered (entry r f p k) p) same ∙
      sym (advance r f p k) ∙ ap (λ m. entry r f m k) (add-one p)

  choices_alike : among n (choice r g n) ≡ among n (choice r f n)
  choices_alike = among_alike n (choice r g n) (choice r f n) (λ k l. ap (λ (s : Segment). s.link) (entry_alike n k (omega arith) l))

  finished_alike : (k : ℕ) → k < n → finished r g n k ≡ finished r f n k
  finished_alike k l =
      ap (λ (s : Segment). holding s s.score (link_of (among n (choice r g n)) k) (serif_of (among n (choice r g n)) k)) (entry_alike n k (omega arith) l) ∙
      ap (λ c. holding (f k) (worth (score r f k) (choice r f n k)) (link_of c k) (serif_of c k)) choices_alike

-- the front of a table, linked on its own
front_linked : (r : Rule) (n : ℕ) (xs : List Segment) → n ≤ length xs → linked_table r n (take n xs) ++ drop n xs ≡ linked_table r n xs
front_linked r n xs fits =
    let front = linked_table r n (take n xs) in
    let F : ℕ → Segment = λ k. cond (ltb k n) (finished r (at xs) n k) (at xs k) in
    let size : length front ≡ n = length-linked r n (take n xs) ∙ length-take-le n xs fits in
    fill_by_all F (front ++ drop n xs) (length xs) blank (omega (arith, size, length-append front (drop n xs), length-drop n xs))
    (λ k kl. ⊎_elim
    (λ (l : k < n).
    get_or_append_left front (drop n xs) blank k (omega (arith, size)) ∙
    at_linked r n (take n xs) k (omega (arith, length-take-le n xs fits)) l ∙
    finished_alike r (at (take n xs)) (at xs) n (λ m q. get_or-take n xs m blank q) k l ∙
    sym (cond-true (ltb k n) (finished r (at xs) n k) (at xs k) (lt-ltb k n l)))
    (λ (l : n ≤ k).
    let there : n + (k - n) ≡ k = omega arith in
    get_or-append_right front (drop n xs) n k blank size l ∙ get_or-drop n xs (k - n) blank ∙ ap (at xs) there ∙
    sym (cond-false (ltb k n) (finished r (at xs) n k) (at xs k) (le-ltb k n l)))
    (cases_lt k n))

-- ---- the law

among_some : (n : ℕ) (f : ℕ → Option ℕ) (k j : ℕ) → among n f k ≡ Some j → (k < n) × (f k ≡ Some j)
among_some n f k j e =
    ⊎_elim
    (λ (l : k < n). (l, sym (cond-true (ltb k n) (f k) None (lt-ltb k n l)) ∙ e))
    (λ (l : n ≤ k). absurd (none-some j (sym (cond-false (ltb k n) (f k) None (le-ltb k n l)) ∙ e)))
    (cases_lt k n)

some_among : (n : ℕ) (f : ℕ → Option ℕ) (k j : ℕ) → k < n → f k ≡ Some j → among n f k ≡ Some j
some_among n f k j l e = cond-true (ltb k n) (f k) None (lt-ltb k n l) ∙ e

module _ (r : Rule) (n : ℕ) (xs : List Segment) (fits : n ≤ length xs) where
  abbrev u : List Segment
  u = linked_table r n xs

  -- what each chooses, in the definition and in words
  choice_chooses : (i j : ℕ) → choice r (at xs) n i ≡ Some j → Chooses r n xs i j
  choice_chooses i j e = lowest_chooses r n xs i j (chosen_first (score r (at xs) i) n j e)

  chooses_choice : (i j : ℕ) → Chooses r n xs i j → choice r (at xs) n i ≡ Some j
  chooses_choice i j c = first_chosen (score r (at xs) i) n j (chooses_lowest r n xs i j c)

  none-choice : (i : ℕ) → ChoosesNone r n xs i → choice r (at xs) n i ≡ None
  none-choice i z =
      ⊎_elim (λ (e : choice r (at xs) n i ≡ None). e)
      (λ (e : (j : ℕ) × (choice r (at xs) n i ≡ Some j)). absurd (z e.0 (choice_chooses i e.0 e.1)))
      (cases_option (choice r (at xs) n i))

  -- among the first n, with what the table has
  picked : (i j : ℕ) → i < n → Chooses r n xs i j → among n (choice r (at xs) n) i ≡ Some j
  picked i j l c = some_among n (choice r (at xs) n) i j l (chooses_choice i j c)

  link_is : (i : ℕ) → i < n → (at u i).link ≡ link_of (among n (choice r (at xs) n)) i
  link_is i l = ap (λ (s : Segment). s.link) (at_linked r n xs i fits l)

  serif_is : (i : ℕ) → i < n → (at u i).serif ≡ serif_of (among n (choice r (at xs) n)) i
  serif_is i l = ap (λ (s : Segment). s.serif) (at_linked r n xs i fits l)

  score_is : (i : ℕ) → i < n → (at u i).score ≡ worth (score r (at xs) i) (choice r (at xs) n i)
  score_is i l = ap (λ (s : Segment). s.score) (at_linked r n xs i fits l)

  stems : Stems r n xs u
  stems =
      let f = choice r (at xs) n in
      let c = among n f in
      let in-n : (i j : ℕ) → link_of c i ≡ Some j → j < n = λ i j e. (among_some n f j i (link_from c i j e).1).0 in
      record {
        chose = λ i j l e.
            let two = link_from c i j (sym (link_is i l) ∙ e) in
            (choice_chooses i j (among_some n f i j two.0).1, choice_chooses j i (among_some n f j i two.1).1);
        linked = λ i j l a b. link_is i l ∙ link_to c i j (picked i j l a) (picked j i a.inside b);
        returned = λ i j l e. let e' = sym (link_is i l) ∙ e in link_is j (in-n i j e') ∙ link-back c i j e';
        alone = λ i j k l l' e e'. link-alone c i j k (sym (link_is i l) ∙ e) (sym (link_is k l') ∙ e');
      }

  no_less : (i k s : ℕ) (o : Option ℕ) → choice r (at xs) n i ≡ o → k < n → PartnersAt r (at xs i) (at xs k) s → worth (score r (at xs) i) o ≤ s
  no_less i k s None e l p =
      let f = score r (at xs) i in
      let b : Held f n None = subst (Held f n) e (held f n) in
      omega (arith, b k l, partners_score r (at xs) i k s p)
  no_less i k s (Some j) e l p =
      let c = choice_chooses i j e in
      omega (arith, c.lowest k s l p, partners_score r (at xs) i j c.scored c.partner)

  scores : Scores r n xs u
  scores = record {
    chosen = λ i j l c. score_is i l ∙ ap (worth (score r (at xs) i)) (chooses_choice i j c) ∙ partners_score r (at xs) i j c.scored c.partner;
    unchosen = λ i l z. score_is i l ∙ ap (worth (score r (at xs) i)) (none-choice i z);
    lowest = λ i k s l m p. omega (arith, score_is i l, no_less i k s (choice r (at xs) n i) refl m p);
  }

  -- whoever is chosen chooses
  chooses_on : (i t : ℕ) → i < n → Chooses r n xs i t → (v : ℕ) × Chooses r n xs t v
  chooses_on i t l c =
      ⊎_elim
      (λ (e : choice r (at xs) n t ≡ None).
      let back = partners_back r (at xs i) (at xs t) c.scored c.partner in
      absurd (omega (arith, no_less t i c.scored None e l back, c.below)))
      (λ (e : (v : ℕ) × (choice r (at xs) n t ≡ Some v)). (e.0, choice_chooses t e.0 e.1))
      (cases_option (choice r (at xs) n t))

  serifs : Serifs r n xs u
  serifs =
      let c = among n (choice r (at xs) n) in
      record {
        given = λ i t l e a w.
            let v = chooses_on i t l a in
            let q : ((m : ℕ) × (link_of c t ≡ Some m)) ⊎ (i < t) =
            ⊎_elim (λ (x : Linked u t). inl (x.0, sym (link_is t a.inside) ∙ x.1)) (λ (x : i < t). inr x) w in
            (v.0, (v.1, serif_is i l ∙ serif-given c i t (picked i t l a) (sym (link_is i l) ∙ e) q ∙ picked t v.0 a.inside v.1));
        withheld = λ i t l e a f m.
            let v = chooses_on i t l a in
            serif_is i l ∙ serif-withheld c i t v.0 (picked i t l a) (sym (link_is i l) ∙ e) (picked t v.0 a.inside v.1) (sym (link_is t a.inside) ∙ f) m;
        linked = λ i l x. serif_is i l ∙ serif-linked c i x.0 (sym (link_is i l) ∙ x.1);
        unchosen = λ i l z. serif_is i l ∙ serif-unchosen c i (cond-true (ltb i n) (choice r (at xs) n i) None (lt-ltb i n l) ∙ none-choice i z);
      }

  drawn : (k : ℕ) → k < n → SameUnlinked (at xs k) (at u k)
  drawn k l = subst (SameUnlinked (at xs k)) (sym (at_linked r n xs k fits l)) (record { dir = refl; position = refl; delta = refl; least = refl; greatest = refl; height = refl; round = refl; first = refl; last = refl })

  linking : Linking r n xs u
  linking = record { stems = stems; scores = scores; serifs = serifs; keeps = record { len = length-linked r n xs; front = drawn; rest = λ k l. at_rest r n xs k l } }

-- the front of a table, linked on its own by an equal rule
pub linked_front : (r q : Rule) (n : ℕ) (xs t : List Segment) → q ≡ r → n ≤ length xs → t ≡ linked_table q (length (take n xs)) (take n xs) → t ++ drop n xs ≡ linked_table r n xs
linked_front r q n xs t e fits h =
    ap (λ y. y ++ drop n xs) (h ∙ ap (λ m. linked_table q m (take n xs)) (length-take-le n xs fits) ∙ ap (λ p. linked_table p n (take n xs)) e) ∙ front_linked r n xs fits

pub front_linking : (r q : Rule) (n : ℕ) (xs t : List Segment) → q ≡ r → n ≤ length xs → t ≡ linked_table q (length (take n xs)) (take n xs) → Linking r n xs (t ++ drop n xs)
front_linking r q n xs t e fits h = subst (Linking r n xs) (sym (linked_front r q n xs t e fits h)) (linking r n xs fits)
