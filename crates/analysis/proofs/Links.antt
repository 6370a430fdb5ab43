-- u and v are points of the contour, after the walk.
use Rattle.std.proofs.Common.{EachIndex, inl, inr, get_or-set_same, get_or-set_other, ◌≡◌, ℕ, ◌+◌, ◌<◌, not, List, [], ◌∷◌, length, get_or, replicate, ◌∙◌, arith}
use Rattle.std.proofs.lemmas.List.{length-replicate, get_or-replicate}
use Rattle.std.proofs.lemmas.Bool.{cond_both, ltb-true, cases_eq}
use Rattle.outline.specs.declared.points.DrawnPoint.{DrawnPoint}
use Rattle.walk.specs.declared.legs.Leg.{Leg}
use Rattle.walk.specs.declared.marks.Mark.{Mark}
use Rattle.walk.specs.Steps.{following}
use Rattle.walk.specs.Starts.{start_of}
use Rattle.walk.specs.Marks.{blank, at, join, stepped, last_end, dealt, dealt_all, walked, with_u, with_v, with_weak, with_in, with_out}
use Rattle.walk.proofs.Laws.{start_in}
use Rattle.walk.proofs.Rounds.{length_at}
use Rattle.analysis.specs.Passes.{Linked}

-- marks of n points, each linked within the contour
pub record Good (n : ℕ) (ms : List Mark) : Type 0 where
  pub long : length ms ≡ n
  pub all : EachIndex ms (λ k. Linked n (get_or ms k blank))

good_at : (n i : ℕ) (f : Mark → Mark) (ms : List Mark) → ((m : Mark) → Linked n m → Linked n (f m)) → i < n → Good n ms → Good n (at i f ms)
good_at n i f ms keeps in' g = record {
  long = length_at i f ms ∙ g.long;
  all = λ k h.
      let within : k < length ms = omega (arith, length_at i f ms) in
      let here : i < length ms = omega (arith, g.long) in
      elim (cases_eq k i) [
        | inl e ↦ rw (e, get_or-set_same) (keeps _ (g.all i here))
        | inr ne ↦ rw get_or-set_other (g.all k within)
      ];
}

good_join : (n a b : ℕ) (ms : List Mark) → a < n → b < n → Good n ms → Good n (join a b ms)
good_join n a b ms in-a in_b g =
    good_at n b (with_v a) _ (λ m k. (k.0, in-a)) in_b (good_at n a (with_u b) ms (λ m k. (in_b, k.1)) in-a g)

-- the walk
good_stepped : (n i j : ℕ) (l : Leg) (ms : List Mark) → i < n → j < n → Good n ms → Good n (stepped i j l ms)
good_stepped n i j l ms in-i in-j g =
    good_at n j (with_weak (not l.end)) _ (λ m k. k) in-j
    (good_at n j (with_in l.dir) _ (λ m k. k) in-j (good_at n i (with_out l.dir) ms (λ m k. k) in-i g))

good_dealt : (n e i j : ℕ) (l : Leg) (ms : List Mark) → e < n → i < n → j < n → Good n ms → Good n (dealt e i j l ms)
good_dealt n e i j l ms in_e in-i in-j g =
    let s = good_stepped n i j l ms in-i in-j g in
    cond_both l.end _ _ (Good n) (λ _. good_join n e j _ in_e in-j s) (λ _. s)

next_in : (n i : ℕ) → i < n → following n i < n
next_in n i in' = cond_both _ (i + 1) 0 (λ x. x < n) (λ t. ltb-true _ _ t) (λ _. omega arith)

last_in : (n e j : ℕ) (l : Leg) → e < n → j < n → last_end e j l < n
last_in n e j l in_e in-j = cond_both l.end j e (λ x. x < n) (λ _. in-j) (λ _. in_e)

good_all : (n s e i : ℕ) (ls : List Leg) (ms : List Mark) → s < n → e < n → i < n → Good n ms → Good n (dealt_all n s e i ls ms)
unfolding dealt_all
good_all n s e i [] ms in_s in_e in-i g = good_join n e s ms in_e in_s g
good_all n s e i (l ∷ ls) ms in_s in_e in-i g =
    let in-j = next_in n i in-i in
    good_all n s (last_end e (following n i) l) (following n i) ls (dealt e i (following n i) l ms)
    in_s (last_in n e (following n i) l in_e in-j) in-j (good_dealt n e i (following n i) l ms in_e in-i in-j g)

blanks : (n : ℕ) → 0 < n → Good n (replicate n blank)
blanks n some = record { long = length-replicate n blank; all = λ k h. let in' : k < n = omega (arith, length-replicate n blank) in rw (get_or-replicate n k blank blank in') (some, some) }

pub good-walked : (N : ℕ) (ps : List DrawnPoint) (ms xs : List Mark) → 0 < length ps
    → ms ≡ replicate (length ps) blank → xs ≡ walked N ps ms → Good (length ps) xs
unfolding walked
good-walked N ps ms xs some e w =
    let s = start_in N ps some in
    rw (w, e)
    (good_all (length ps) (start_of N ps) (start_of N ps) (start_of N ps) _ (replicate (length ps) blank) s s s (blanks (length ps) some))
