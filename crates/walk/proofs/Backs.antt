-- The way back to the start.
use Rattle.std.proofs.Common.{◌≡◌, ℕ, zero, suc, ◌+◌, ◌-◌, ◌<◌, Bool, true, false, ◌&&◌, List, [], ◌∷◌, length, sym, refl, ap, ◌∙◌, subst, Option, Some, None, IfSome, MatchOption, arith}
use Rattle.std.proofs.lemmas.Bool.{cond-true, cond-false, lt-ltb}
use denote.Ref.{Bor}
use denote.Param.Members.{Mut}
use Rattle.std.specs.declared.ops.Range.{Range}
use Rattle.std.specs.Fn.{CalledAt}
use Rattle.std.specs.Iterator.{FindsItem, Yields}
use Rattle.std.specs.List.{FoldsTo}
use Rattle.std.specs.Option.{unwrap_or}
use Rattle.outline.specs.declared.points.DrawnPoint.{DrawnPoint}
use Rattle.walk.specs.Starts.{is_short, goes_back, stepped_back, start_of, wrap}
use Rattle.walk.specs.Legs.{cuts, spread}
use Rattle.walk.specs.Steps.{no_step, steps_from, following}
use Rattle.walk.specs.declared.legs.Leg.{Leg}
use Rattle.walk.specs.declared.marks.Mark.{Mark}
use Rattle.walk.specs.Marks.{dealt_all, walked}

-- the first point is not stepped back to
back_first : (N : ℕ) (ps : List DrawnPoint) → stepped_back N ps 1 ≡ 1
unfolding stepped_back
back_first N ps = refl

is_back : (N : ℕ) (ps : List DrawnPoint) (i : ℕ) → 0 < i → goes_back N ps i ≡ is_short N ps i
is_back N ps i h = ap (λ (b : Bool). b && is_short N ps i) (lt-ltb 0 i h)

back_stays : (N : ℕ) (ps : List DrawnPoint) (i : ℕ) → is_short N ps i ≡ false → stepped_back N ps (suc i) ≡ suc i
unfolding stepped_back
back_stays N ps zero e = refl
back_stays N ps (suc i) e = cond-false _ _ _ (is_back N ps (suc i) (omega arith) ∙ e)

back_goes : (N : ℕ) (ps : List DrawnPoint) (i : ℕ) → 0 < i → is_short N ps i ≡ true → stepped_back N ps (suc i) ≡ stepped_back N ps i
unfolding stepped_back
back_goes N ps zero h e = absurd (omega arith)
back_goes N ps (suc i) h e = cond-true _ _ _ (is_back N ps (suc i) h ∙ e)

-- the numbers of a range, from its end
abbrev Back : Range ℕ → Option ℕ → Range ℕ → Type 0
Back s r t = (t.start ≡ s.start) × MatchOption r ((s.end - s.start ≡ 0) × (t.end ≡ s.end)) (λ x. (0 < s.end - s.start) × (x ≡ t.end) × (s.end ≡ t.end + 1))

-- The last point that a long step leaves, below the end of a range; the first point where there is none.
module _ {F : Type 0} {g : Mut F (Bor ℕ × Unit {0}) Bool} (N : ℕ) (ps : List DrawnPoint) (f : F)
    (is_long : (x : ℕ) (q : F) → CalledAt g f x true q → is_short N ps x ≡ false)
    (short : (x : ℕ) (q : F) → CalledAt g f x false q → (q ≡ f) × (is_short N ps x ≡ true)) where
  last_long : (xs : List ℕ) (s t u : Range ℕ) (j : F) (r : Option ℕ) → s.start ≡ 1 → 0 < s.end
      → Yields Back s xs t → Back t r u → FoldsTo (λ p x q. CalledAt g p x false q) f xs j → IfSome r (λ x. (h : F) × CalledAt g j x true h)
      → (unwrap_or r 0 < s.end) × (stepped_back N ps s.end ≡ unwrap_or r 0 + 1)
  last_long [] s t u j None one some y z k e =
      let first : t.start ≡ s.start = sym (ap (λ (v : Range ℕ). v.start) y) in
      let end : t.end ≡ s.end = sym (ap (λ (v : Range ℕ). v.end) y) in
      let at : s.end ≡ 1 = omega (arith, z.1.0) in
      (some, ap (stepped_back N ps) at ∙ back_first N ps)
  last_long [] s t u j (Some x) one some y z k e =
      let end : t.end ≡ s.end = sym (ap (λ (v : Range ℕ). v.end) y) in
      let at : s.end ≡ suc x = omega (arith, z.1.1, z.1.2) in
      let stop = is_long x e.0 (subst (λ (v : F). CalledAt g v x true e.0) (sym k) e.1) in
      (omega arith, ap (stepped_back N ps) at ∙ back_stays N ps x stop ∙ omega arith)
  last_long (x ∷ xs) s t u j r one some y z k e =
      let m = y.0 in
      let at : s.end ≡ suc x = omega (arith, y.1.1.1, y.1.1.2) in
      let here : x ≡ m.end = y.1.1.1 in
      let go = short x k.0 k.1 in
      let inside : 0 < x = omega (arith, y.1.1.0) in
      let rest = last_long xs m t u j r (y.1.0 ∙ one) (omega arith) y.2 z (subst (λ (v : F). FoldsTo (λ p a q. CalledAt g p a false q) v xs j) go.0 k.2) e in
      (omega (arith, rest.0), ap (stepped_back N ps) at ∙ back_goes N ps x inside go.1 ∙ ap (stepped_back N ps) here ∙ rest.1)

  pub found : (s u : Range ℕ) (r : Option ℕ) → s.start ≡ 1 → s.end ≡ length ps → 0 < length ps → FindsItem Back g s f r u
      → (unwrap_or r 0 < length ps) × ((n : ℕ) → n ≡ following (length ps) (unwrap_or r 0) → n ≡ start_of N ps)
  unfolding start_of
  found s u r one all some d =
      let l = last_long d.0 s d.2.0 u d.1 r one (omega arith) d.2.1 d.2.2 d.3 d.4 in
      let is : stepped_back N ps (length ps) ≡ unwrap_or r 0 + 1 = ap (stepped_back N ps) (sym all) ∙ l.1 in
      (omega (arith, l.0), λ n e. e ∙ ap (wrap (length ps)) (sym is))

-- the parts of the walk, one after another
pub whole : (N : ℕ) (ps : List DrawnPoint) (ms xs : List Mark) (s n : ℕ) (a b : List Leg)
    → s ≡ start_of N ps → n ≡ length ps → a ≡ cuts N no_step (steps_from ps s (length ps)) → b ≡ spread a
    → xs ≡ dealt_all n s s s b ms → xs ≡ walked N ps ms
unfolding walked
whole N ps ms xs s n a b e₁ e₂ e₃ e₄ e₅ = cc
