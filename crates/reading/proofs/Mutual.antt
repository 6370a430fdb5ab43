-- Choices are told by what linking keeps: so they may be read off the finished table.
use Rattle.std.proofs.Common.{◌≡◌, ℕ, ◌<◌, List, sym, ◌∙◌, inl, inr, ⊎_elim, arith}
use Rattle.segments.specs.declared.tables.Segment.{Segment}
use Rattle.linking.specs.declared.rules.Rule.{Rule}
use Rattle.linking.specs.Choices.{at}
use Rattle.linking.specs.Laws.{Partners, PartnersAt, Chooses, SameUnlinked, Linking}
use Rattle.linking.specs.Rules.{cost}
use Rattle.reading.specs.Laws.{Mutual}

-- a and b are the same but for score, link and serif, either way round
same_back : (a b : Segment) → SameUnlinked a b → SameUnlinked b a
same_back a b s = record {
  dir = sym s.dir;
  position = sym s.position;
  delta = sym s.delta;
  least = sym s.least;
  greatest = sym s.greatest;
  height = sym s.height;
  round = sym s.round;
  first = sym s.first;
  last = sym s.last;
}

module _ (r : Rule) where
  partners_same : (a b x y : Segment) → SameUnlinked a x → SameUnlinked b y → Partners r a b → Partners r x y
  partners_same a b x y s t p = record {
    of_major = s.dir ∙ p.of_major;
    of_opposite = rw t.dir p.of_opposite;
    beyond = rw (s.position, t.position) p.beyond;
    overlapping = rw (s.least, t.least, s.greatest, t.greatest) p.overlapping;
  }

  cost-same : (a b x y : Segment) → SameUnlinked a x → SameUnlinked b y → cost r a b ≡ cost r x y
  cost-same a b x y s t = rw (s.position, t.position, s.least, t.least, s.greatest, t.greatest)

  partners_at_same : (a b x y : Segment) (k : ℕ) → SameUnlinked a x → SameUnlinked b y → PartnersAt r a b k → PartnersAt r x y k
  partners_at_same a b x y k s t p =
      ⊎_elim
      (λ (q : Partners r a b × (k ≡ cost r a b)). inl (partners_same a b x y s t q.0, q.1 ∙ cost-same a b x y s t))
      (λ (q : Partners r b a × (k ≡ cost r b a)). inr (partners_same b a y x t s q.0, q.1 ∙ cost-same b a y x t s))
      p

  chooses_same : (n : ℕ) (xs ys : List Segment) → ((k : ℕ) → k < n → SameUnlinked (at xs k) (at ys k))
      → (i j : ℕ) → i < n → Chooses r n xs i j → Chooses r n ys i j
  chooses_same n xs ys same i j l c =
      let back : (k s : ℕ) → k < n → PartnersAt r (at ys i) (at ys k) s → PartnersAt r (at xs i) (at xs k) s =
      λ k s m. partners_at_same (at ys i) (at ys k) (at xs i) (at xs k) s (same_back (at xs i) (at ys i) (same i l)) (same_back (at xs k) (at ys k) (same k m)) in
      record {
        inside = c.inside;
        scored = c.scored;
        partner = partners_at_same (at xs i) (at xs j) (at ys i) (at ys j) c.scored (same i l) (same j c.inside) c.partner;
        below = c.below;
        lowest = λ k s m p. c.lowest k s m (back k s m p);
        first = λ k s m p. c.first k s m (back k s (omega (arith, c.inside)) p);
      }

  pub linking_mutual : (n : ℕ) (xs ys : List Segment) → Linking r n xs ys → Mutual r n ys
  linking_mutual n xs ys h =
      let to : (i j : ℕ) → i < n → Chooses r n xs i j → Chooses r n ys i j = chooses_same n xs ys h.keeps.front in
      let from : (i j : ℕ) → i < n → Chooses r n ys i j → Chooses r n xs i j = chooses_same n ys xs (λ k m. same_back (at xs k) (at ys k) (h.keeps.front k m)) in
      record {
        chose = λ i j l e. let two = h.stems.chose i j l e in (to i j l two.0, to j i two.0.inside two.1);
        linked = λ i j l a b. h.stems.linked i j l (from i j l a) (from j i a.inside b);
        returned = h.stems.returned;
        alone = h.stems.alone;
      }
