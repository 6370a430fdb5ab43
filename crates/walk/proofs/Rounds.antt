-- What the marks of a point are once the walk has gone round.
use Rattle.std.proofs.Common.{◌≡◌, ℕ, suc, ◌<◌, ◌≤◌, Bool, not, List, [], ◌∷◌, length, get_or, sym, refl, ap, ◌∙◌, inl, inr, arith, length-set}
use Rattle.std.proofs.lemmas.List.{get_or-set_same, get_or-set_other, get_or_past}
use Rattle.std.proofs.lemmas.Bool.{cond_both, cases_eq, cases_lt}
use Rattle.outline.specs.declared.directions.Direction.{Direction}
use Rattle.walk.specs.declared.legs.Leg.{Leg}
use Rattle.walk.specs.declared.marks.Mark.{Mark}
use Rattle.walk.specs.Marks.{blank, at, join, stepped, last_end, dealt, dealt_all, with_u, with_v, with_weak, with_in, with_out}
use Rattle.walk.specs.Ends.{mark}
use Rattle.walk.proofs.Places.{place, place-next, place_lt, apart}

-- the steps ls, with so many steps left at each
unfoldable pub round : ℕ → ℕ → ℕ → List Leg → List Mark → List Mark
round n s e [] ms = join e s ms
round n s e (l ∷ ls) ms =
    round n s (last_end e (place n s (length ls)) l) ls (dealt e (place n s (suc (length ls))) (place n s (length ls)) l ms)

pub dealt-round : (n s e : ℕ) (ls : List Leg) (ms : List Mark) → s < n → length ls ≤ n
    → dealt_all n s e (place n s (length ls)) ls ms ≡ round n s e ls ms
unfolding dealt_all round
dealt-round n s e [] ms in_s fits = refl
dealt-round n s e (l ∷ ls) ms in_s fits =
    let j = place n s (length ls) in
    let next = place-next n s (length ls) in_s fits in
    let more = dealt-round n s (last_end e j l) ls (dealt e (place n s (suc (length ls))) j l ms) in_s (omega arith) in
    rw next more

-- lengths
pub length_at : (i : ℕ) (f : Mark → Mark) (ms : List Mark) → length (at i f ms) ≡ length ms
length_at i f ms = length-set ms i _

pub length-join : (a b : ℕ) (ms : List Mark) → length (join a b ms) ≡ length ms
length-join a b ms = length_at b (with_v a) (at a (with_u b) ms) ∙ length_at a (with_u b) ms

pub length-stepped : (i j : ℕ) (l : Leg) (ms : List Mark) → length (stepped i j l ms) ≡ length ms
length-stepped i j l ms =
    length_at j (with_weak (not l.end)) (at j (with_in l.dir) (at i (with_out l.dir) ms))
    ∙ length_at j (with_in l.dir) (at i (with_out l.dir) ms) ∙ length_at i (with_out l.dir) ms

pub length-dealt : (e i j : ℕ) (l : Leg) (ms : List Mark) → length (dealt e i j l ms) ≡ length ms
length-dealt e i j l ms =
    cond_both l.end _ _ (λ (xs : List Mark). length xs ≡ length ms)
    (λ _. length-join e j (stepped i j l ms) ∙ length-stepped i j l ms) (λ _. length-stepped i j l ms)

-- one mark is changed
pub at_same : (i : ℕ) (f : Mark → Mark) (ms : List Mark) → i < length ms → mark (at i f ms) i ≡ f (mark ms i)
at_same i f ms in' = get_or-set_same ms i (f (get_or ms i blank)) blank in'

at_past : (i : ℕ) (f : Mark → Mark) (ms : List Mark) → length ms ≤ i → mark (at i f ms) i ≡ mark ms i
at_past i f ms out =
    let long = length_at i f ms in
    get_or_past (at i f ms) i blank (omega arith) ∙ sym (get_or_past ms i blank out)

at_other : (i : ℕ) (f : Mark → Mark) (ms : List Mark) (x : ℕ) → (x ≡ i → ⊥) → mark (at i f ms) x ≡ mark ms x
at_other i f ms x ne = get_or-set_other ms i x _ blank ne

-- A part p of the mark of point x stays, unless it is the part that changes there.
module _ {X : Type 0} (p : Mark → X) (x : ℕ) where
  at-keeps : (i : ℕ) (f : Mark → Mark) (ms : List Mark) → (i ≡ x → (m : Mark) → p (f m) ≡ p m) → p (mark (at i f ms) x) ≡ p (mark ms x)
  at-keeps i f ms blind =
      elim (cases_eq x i) [
        | inl e ↦
            elim (cases_lt i (length ms)) [
              | inl h ↦ rw e (ap p (at_same i f ms h) ∙ blind (sym e) (mark ms i))
              | inr h ↦ rw e (ap p (at_past i f ms h))
            ]
        | inr ne ↦ ap p (at_other i f ms x ne)
      ]

  pub join-keeps : (a b : ℕ) (ms : List Mark) → (a ≡ x → (k : ℕ) (m : Mark) → p (with_u k m) ≡ p m) → (b ≡ x → (k : ℕ) (m : Mark) → p (with_v k m) ≡ p m)
      → p (mark (join a b ms) x) ≡ p (mark ms x)
  join-keeps a b ms u v =
      at-keeps b (with_v a) (at a (with_u b) ms) (λ h. v h a) ∙ at-keeps a (with_u b) ms (λ h. u h b)

-- what joining writes
pub join_u : (a b : ℕ) (ms : List Mark) → a < length ms → (mark (join a b ms) a).u ≡ b
join_u a b ms in-a =
    at-keeps (λ m. m.u) a b (with_v a) (at a (with_u b) ms) (λ _ _. refl) ∙ ap (λ (m : Mark). m.u) (at_same a (with_u b) ms in-a)

pub join_v : (a b : ℕ) (ms : List Mark) → b < length ms → (mark (join a b ms) b).v ≡ a
join_v a b ms in_b =
    let long = length_at a (with_u b) ms in
    ap (λ (m : Mark). m.v) (at_same b (with_v a) (at a (with_u b) ms) (omega arith))

-- what is not changed where a step comes to
pub record Still {X : Type 0} (p : Mark → X) : Type 0 where
  pub into : (d : Direction) (m : Mark) → p (with_in d m) ≡ p m
  pub weak : (b : Bool) (m : Mark) → p (with_weak b m) ≡ p m
  pub u : (k : ℕ) (m : Mark) → p (with_u k m) ≡ p m
  pub v : (k : ℕ) (m : Mark) → p (with_v k m) ≡ p m

module _ {X : Type 0} (p : Mark → X) (x : ℕ) where
  stepped-keeps : (i j : ℕ) (l : Leg) (ms : List Mark) → (i ≡ x → (d : Direction) (m : Mark) → p (with_out d m) ≡ p m) → (j ≡ x → Still p)
      → p (mark (stepped i j l ms) x) ≡ p (mark ms x)
  stepped-keeps i j l ms out still =
      at-keeps p x j (with_weak (not l.end)) (at j (with_in l.dir) (at i (with_out l.dir) ms)) (λ h. (still h).weak (not l.end))
      ∙ at-keeps p x j (with_in l.dir) (at i (with_out l.dir) ms) (λ h. (still h).into l.dir)
      ∙ at-keeps p x i (with_out l.dir) ms (λ h. out h l.dir)

  dealt-keeps : (e i j : ℕ) (l : Leg) (ms : List Mark) → (i ≡ x → (d : Direction) (m : Mark) → p (with_out d m) ≡ p m) → (j ≡ x → Still p)
      → (e ≡ x → (k : ℕ) (m : Mark) → p (with_u k m) ≡ p m)
      → p (mark (dealt e i j l ms) x) ≡ p (mark ms x)
  dealt-keeps e i j l ms out still u =
      let s = stepped-keeps i j l ms out still in
      cond_both l.end _ _ (λ (xs : List Mark). p (mark xs x) ≡ p (mark ms x))
      (λ _. join-keeps p x e j (stepped i j l ms) u (λ h. (still h).v) ∙ s) (λ _. s)

  -- p is not changed at x by m steps that are left, where e is the last end
  pub record Clear (n s m e : ℕ) : Type 0 where
    pub leaves : (t : ℕ) → t < m → place n s (suc t) ≡ x → (d : Direction) (k : Mark) → p (with_out d k) ≡ p k
    pub comes : (t : ℕ) → t < m → place n s t ≡ x → Still p
    pub last : e ≡ x → (k : ℕ) (m : Mark) → p (with_u k m) ≡ p m
    pub start : s ≡ x → (k : ℕ) (m : Mark) → p (with_v k m) ≡ p m

  pub round_keeps : (n s e : ℕ) (ls : List Leg) (ms : List Mark) → Clear n s (length ls) e → p (mark (round n s e ls ms) x) ≡ p (mark ms x)
  unfolding round
  round_keeps n s e [] ms c = join-keeps p x e s ms c.last c.start
  round_keeps n s e (l ∷ ls) ms c =
      let j = place n s (length ls) in
      let here = c.comes (length ls) (omega arith) in
      let rest : Clear n s (length ls) (last_end e j l) = record {
        leaves = λ t h. c.leaves t (omega arith);
        comes = λ t h. c.comes t (omega arith);
        last = cond_both l.end j e (λ y. y ≡ x → (k : ℕ) (m : Mark) → p (with_u k m) ≡ p m) (λ _ h. (here h).u) (λ _. c.last);
        start = c.start;
      } in
      round_keeps n s (last_end e j l) ls (dealt e (place n s (suc (length ls))) j l ms) rest
      ∙ dealt-keeps e (place n s (suc (length ls))) j l ms (c.leaves (length ls) (omega arith)) here c.last

-- what a step writes
module _ (e i j : ℕ) (l : Leg) (ms : List Mark) where
  -- joining ends changes only u and v
  dealt_as_stepped : {X : Type 0} (p : Mark → X) (x : ℕ) → ((k : ℕ) (m : Mark) → p (with_u k m) ≡ p m) → ((k : ℕ) (m : Mark) → p (with_v k m) ≡ p m)
      → p (mark (dealt e i j l ms) x) ≡ p (mark (stepped i j l ms) x)
  dealt_as_stepped p x u v =
      cond_both l.end _ _ (λ (xs : List Mark). p (mark xs x) ≡ p (mark (stepped i j l ms) x))
      (λ _. join-keeps p x e j (stepped i j l ms) (λ _. u) (λ _. v)) (λ _. refl)

  pub dealt_in : j < length ms → (mark (dealt e i j l ms) j).in_dir ≡ l.dir
  dealt_in in-j =
      let m₁ = at i (with_out l.dir) ms in
      let long = length_at i (with_out l.dir) ms in
      dealt_as_stepped (λ m. m.in_dir) j (λ _ _. refl) (λ _ _. refl)
      ∙ at-keeps (λ m. m.in_dir) j j (with_weak (not l.end)) (at j (with_in l.dir) m₁) (λ _ _. refl)
      ∙ ap (λ (m : Mark). m.in_dir) (at_same j (with_in l.dir) m₁ (omega arith))

  pub dealt_weak : j < length ms → (mark (dealt e i j l ms) j).weak ≡ not l.end
  dealt_weak in-j =
      let m₁ = at i (with_out l.dir) ms in
      let long₁ = length_at i (with_out l.dir) ms in
      let long₂ = length_at j (with_in l.dir) m₁ in
      dealt_as_stepped (λ m. m.weak) j (λ _ _. refl) (λ _ _. refl)
      ∙ ap (λ (m : Mark). m.weak) (at_same j (with_weak (not l.end)) (at j (with_in l.dir) m₁) (omega arith))

  pub dealt_out : i < length ms → (mark (dealt e i j l ms) i).out_dir ≡ l.dir
  dealt_out in-i =
      let m₁ = at i (with_out l.dir) ms in
      dealt_as_stepped (λ m. m.out_dir) i (λ _ _. refl) (λ _ _. refl)
      ∙ at-keeps (λ m. m.out_dir) i j (with_weak (not l.end)) (at j (with_in l.dir) m₁) (λ _ _. refl)
      ∙ at-keeps (λ m. m.out_dir) i j (with_in l.dir) m₁ (λ _ _. refl)
      ∙ ap (λ (m : Mark). m.out_dir) (at_same i (with_out l.dir) ms in-i)

-- What the first of the steps that are left writes, stays.
module _ (n s e : ℕ) (l : Leg) (ls : List Leg) (ms : List Mark) (in_s : s < n) (long : length ms ≡ n) (fits : suc (length ls) ≤ n) where
  -- the point that it comes to is not met again
  once : (t : ℕ) → t < length ls → place n s t ≡ place n s (length ls) → ⊥
  once t h = apart n s t (length ls) in_s h (omega arith) (omega arith)

  pub first_in : (mark (round n s e (l ∷ ls) ms) (place n s (length ls))).in_dir ≡ l.dir
  unfolding round
  first_in =
      let j = place n s (length ls) in
      let in-j = place_lt n s (length ls) in_s (omega arith) in
      round_keeps (λ m. m.in_dir) j n s _ ls _
      (record { leaves = λ _ _ _ _ _. refl; comes = λ t h e. absurd (once t h e); last = λ _ _ _. refl; start = λ _ _ _. refl })
      ∙ dealt_in e (place n s (suc (length ls))) j l ms (omega arith)

  pub first_weak : (mark (round n s e (l ∷ ls) ms) (place n s (length ls))).weak ≡ not l.end
  unfolding round
  first_weak =
      let j = place n s (length ls) in
      let in-j = place_lt n s (length ls) in_s (omega arith) in
      round_keeps (λ m. m.weak) j n s _ ls _
      (record { leaves = λ _ _ _ _ _. refl; comes = λ t h e. absurd (once t h e); last = λ _ _ _. refl; start = λ _ _ _. refl })
      ∙ dealt_weak e (place n s (suc (length ls))) j l ms (omega arith)

  pub first_out : (mark (round n s e (l ∷ ls) ms) (place n s (suc (length ls)))).out_dir ≡ l.dir
  unfolding round
  first_out =
      let i = place n s (suc (length ls)) in
      let in-i = place_lt n s (suc (length ls)) in_s fits in
      round_keeps (λ m. m.out_dir) i n s _ ls _
      (record {
        leaves = λ t h e. absurd (apart n s (suc t) (suc (length ls)) in_s (omega arith) fits (omega arith) e);
        comes = λ _ _ _. record { into = λ _ _. refl; weak = λ _ _. refl; u = λ _ _. refl; v = λ _ _. refl };
        last = λ _ _ _. refl;
        start = λ _ _ _. refl;
      })
      ∙ dealt_out e i (place n s (length ls)) l ms (omega arith)
