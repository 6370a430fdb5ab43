-- The last pass: links that are not returned go, in index order.
use Rattle.std.proofs.Common.{◌≡◌, ℕ, ◌+◌, ◌<◌, ◌≤◌, true, false, cond, ◌||◌, ltb, ◌⊎◌, List, length, set, Some, None, Option, sym, refl, ap, ◌∙◌, subst, inl, inr, ⊎_elim, arith}
use Rattle.std.proofs.lemmas.Bool.{lt-ltb, le-ltb, eq-eqb, ne_eqb, cases_lt, cases_Bool, both_ways, cond-true, cond-false, or_left, or_right, or_from}
use Rattle.std.proofs.lemmas.Bool.Decides.{nat_tests}
use Rattle.segments.specs.declared.tables.Segment.{Segment}
use Rattle.linking.specs.Choices.{at, holding}
use Rattle.linking.proofs.Steps.{shows_set}
use Rattle.linking.specs.Links.{picks, returned, paired, link_of, serif_by}
use Rattle.linking.specs.Passes.{Shows, settled, held_choice, Unsettled, released, settling}

-- an option, with what it is
pub cases_option : (o : Option ℕ) → (o ≡ None) ⊎ ((t : ℕ) × (o ≡ Some t))
cases_option None = inl refl
cases_option (Some t) = inr (t, refl)

-- t, which i chose, did not choose i where t is not paired
unpaired : (ch : ℕ → Option ℕ) (i t : ℕ) → ch i ≡ Some t → paired ch t ≡ false → picks (ch t) i ≡ false
unpaired ch i t e f =
    ⊎_elim (λ (h : ch t ≡ None). ap (λ o. picks o i) h)
    (λ (h : (u : ℕ) × (ch t ≡ Some u)).
    ap (λ o. picks o i) h.1 ∙
    ne_eqb h.0 i (λ q.
    both_ways (paired ch t) f
    (ap (returned ch t) h.1 ∙ ap (λ m. picks (ch m) t) q ∙ ap (λ o. picks o t) e ∙ eq-eqb t t refl)))
    (cases_option (ch t))

-- what the turn at i reads of t's link, w, tells as much as t's choice
module _ (ch : ℕ → Option ℕ) (i t : ℕ) (w : Option ℕ) (e : ch i ≡ Some t) (ew : w ≡ cond (ltb t i) (link_of ch t) (ch t)) where
  before : t < i → w ≡ link_of ch t
  before l = ew ∙ cond-true (ltb t i) (link_of ch t) (ch t) (lt-ltb t i l)

  after : i ≤ t → w ≡ ch t
  after l = ew ∙ cond-false (ltb t i) (link_of ch t) (ch t) (le-ltb t i l)

  pub read-picks : picks w i ≡ picks (ch t) i
  read-picks =
      ⊎_elim
      (λ (l : t < i).
      ⊎_elim (λ (p : paired ch t ≡ true). ap (λ o. picks o i) (before l ∙ cond-true (paired ch t) (ch t) None p))
      (λ (p : paired ch t ≡ false). ap (λ o. picks o i) (before l ∙ cond-false (paired ch t) (ch t) None p) ∙ sym (unpaired ch i t e p))
      (cases_Bool (paired ch t)))
      (λ (l : i ≤ t). ap (λ o. picks o i) (after l))
      (cases_lt t i)

  pub read-serif : picks (ch t) i ≡ false → w ≡ cond (paired ch t || ltb i t) (ch t) None
  read-serif f =
      ⊎_elim
      (λ (l : t < i).
      let b : ltb i t ≡ false = le-ltb i t (omega arith) in
      ⊎_elim (λ (p : paired ch t ≡ true). before l ∙ cond-true (paired ch t) (ch t) None p ∙ sym (cond-true (paired ch t || ltb i t) (ch t) None (or_left (paired ch t) (ltb i t) p)))
      (λ (p : paired ch t ≡ false). before l ∙ cond-false (paired ch t) (ch t) None p ∙ sym (cond-false (paired ch t || ltb i t) (ch t) None (or_from (paired ch t) (ltb i t) p b)))
      (cases_Bool (paired ch t)))
      (λ (l : i ≤ t).
      ⊎_elim
      (λ (q : i < t). after l ∙ sym (cond-true (paired ch t || ltb i t) (ch t) None (or_right (paired ch t) (ltb i t) (lt-ltb i t q))))
      (λ (q : t ≤ i). let s : t ≡ i = omega arith in absurd (both_ways (picks (ch t) i) f (ap (λ m. picks (ch m) i) s ∙ ap (λ o. picks o i) e ∙ eq-eqb t i s)))
      (cases_lt i t))
      (cases_lt t i)

-- entry i after its turn
settle_step : (xs : List Segment) (i : ℕ) (T : ℕ → Segment) → Unsettled xs → i < length xs → ((k : ℕ) → k < length xs → T k ≡ settling xs i k) → released T i (T i).link ≡ settled (held_choice xs) (at xs) i
settle_step xs i T u il h =
    let n = length xs in
    let ch = held_choice xs in
    let g = at xs i in
    let own : (k : ℕ) → k < n → ch k ≡ (at xs k).link = λ k l. cond-true (ltb k n) (at xs k).link None (lt-ltb k n l) in
    let ti : T i ≡ g = h i il ∙ cond-false (ltb i i) (settled ch (at xs) i) g (le-ltb i i (omega arith)) in
    let no : g.serif ≡ None = u.none i il in
    ⊎_elim
    (λ (e : g.link ≡ None).
    let c : ch i ≡ None = own i il ∙ e in
    ap (released T i) (ap (λ (s : Segment). s.link) ti ∙ e) ∙ ti ∙
    ap (λ o. holding g g.score o g.serif) e ∙ ap (holding g g.score None) no ∙
    sym (ap (λ o. holding g g.score (cond (returned ch i o) o None) (cond (returned ch i o) None (serif_by ch i o))) c))
    (λ (e : (t : ℕ) × (g.link ≡ Some t)).
    let t = e.0 in
    let tl : t < n = u.within i t il e.1 in
    let c : ch i ≡ Some t = own i il ∙ e.1 in
    let w = (T t).link in
    let ew : w ≡ cond (ltb t i) (link_of ch t) (ch t) =
    ap (λ (s : Segment). s.link) (h t tl) ∙
    elim (ltb t i) as (λ b. (cond b (settled ch (at xs) t) (at xs t)).link ≡ cond b (link_of ch t) (ch t)) [ true ↦ refl | false ↦ sym (own t tl) ] in
    let say : settled ch (at xs) i ≡ holding g g.score (cond (picks (ch t) i) (Some t) None) (cond (picks (ch t) i) None (cond (paired ch t || ltb i t) (ch t) None)) =
    ap (λ o. holding g g.score (cond (returned ch i o) o None) (cond (returned ch i o) None (serif_by ch i o))) c in
    ap (released T i) (ap (λ (s : Segment). s.link) ti ∙ e.1) ∙
    ap (λ b. cond b (T i) (holding (T i) (T i).score None w)) (read-picks ch i t w c ew) ∙
    ap (λ (s : Segment). cond (picks (ch t) i) s (holding s s.score None w)) ti ∙
    ⊎_elim
    (λ (p : picks (ch t) i ≡ true).
    cond-true (picks (ch t) i) g (holding g g.score None w) p ∙
    ap (λ o. holding g g.score o g.serif) e.1 ∙ ap (holding g g.score (Some t)) no ∙
    sym (say ∙ ap (λ b. holding g g.score (cond b (Some t) None) (cond b None (cond (paired ch t || ltb i t) (ch t) None))) p))
    (λ (p : picks (ch t) i ≡ false).
    cond-false (picks (ch t) i) g (holding g g.score None w) p ∙
    ap (holding g g.score None) (read-serif ch i t w c ew p) ∙
    sym (say ∙ ap (λ b. holding g g.score (cond b (Some t) None) (cond b None (cond (paired ch t || ltb i t) (ch t) None))) p))
    (cases_Bool (picks (ch t) i)))
    (cases_option g.link)

pub settle_more : (xs t t' : List Segment) (i : ℕ) → Unsettled xs → i < length xs → Shows (length xs) (settling xs i) t → t' ≡ set t i (released (at t) i (at t i).link) → Shows (length xs) (settling xs (i + 1)) t'
settle_more xs t t' i u l h e =
    let n = length xs in
    let S = settled (held_choice xs) (at xs) in
    subst (Shows n (settling xs (i + 1))) (sym e)
    (shows_set n (settling xs i) (settling xs (i + 1)) t i (released (at t) i (at t i).link) l
    (settle_step xs i (at t) u l h.each ∙ sym (cond-true (ltb i (i + 1)) (S i) (at xs i) (lt-ltb i (i + 1) (omega arith))))
    (λ k kl q. ap (λ b. cond b (S k) (at xs k)) (grind (arith, nat_tests))) h)
