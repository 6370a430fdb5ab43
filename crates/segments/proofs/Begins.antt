-- Where the walk begins, in words.
use Rattle.std.proofs.Common.{◌≡◌, ℕ, ◌+◌, ◌≤◌, Bool, true, false, cond, ◌&&◌, List, [], ◌∷◌, length, take, drop, MatchBool, sym, refl, ap, ◌∙◌, subst, inl, inr, add-one, arith}
use Rattle.std.specs.List.{AllByRecursion}
use Rattle.std.proofs.lemmas.List.{length-take-le}
use Rattle.std.proofs.lemmas.Bool.{and_parts, and_cases, both_ways}
use Rattle.segments.specs.declared.measures.AxisPoint.{AxisPoint}
use Rattle.segments.specs.declared.measures.Dimension.{Dimension}
use Rattle.segments.specs.Starts.{on, all_on, head_on, last_on, run_of, Last, StartsTold}

module _ (dim : Dimension) where
  each_on : (ps : List AxisPoint) → all_on dim ps ≡ true → AllByRecursion (λ p. on dim p ≡ true) ps
  each_on [] h = tt
  each_on (p ∷ ps) h = ((and_parts (on dim p) (all_on dim ps) h).0, each_on ps (and_parts (on dim p) (all_on dim ps) h).1)

  all_each : (ps : List AxisPoint) → AllByRecursion (λ p. on dim p ≡ true) ps → all_on dim ps ≡ true
  all_each [] h = refl
  all_each (p ∷ ps) h = ap (λ (b : Bool). b && all_on dim ps) h.0 ∙ all_each ps h.1

  last_cons : (P : AxisPoint → Type 0) (x : AxisPoint) (xs : List AxisPoint) → Last P xs → (length xs ≡ 0 → P x) → Last P (x ∷ xs)
  last_cons P x [] h k = k refl
  last_cons P x (y ∷ xs) h k = h

  -- the run begins at place s
  record Runs (ps : List AxisPoint) (s : ℕ) : Type 0 where
    low : s ≤ length ps
    on_from : AllByRecursion (λ p. on dim p ≡ true) (drop s ps)
    off_before : Last (λ p. on dim p ≡ false) (take s ps)

  -- a point before a run that begins at once, but is not part of it
  first_off : (s : ℕ) (p : AxisPoint) (ps : List AxisPoint) → s ≡ 0 → all_on dim (p ∷ ps) ≡ false → AllByRecursion (λ q. on dim q ≡ true) (drop s ps) → on dim p ≡ false
  first_off s p ps z h a =
      let rest : all_on dim ps ≡ true = all_each ps (subst (λ (i : ℕ). AllByRecursion (λ q. on dim q ≡ true) (drop i ps)) z a) in
      elim (and_cases (on dim p) (all_on dim ps) h) [
        | inl off ↦ off
        | inr some ↦ absurd (both_ways (all_on dim ps) some rest)
      ]

  runs_by : (j : Bool) (p : AxisPoint) (ps : List AxisPoint) → all_on dim (p ∷ ps) ≡ j → Runs ps (run_of dim ps) → Runs (p ∷ ps) (cond j 0 (run_of dim ps + 1))
  runs_by true p ps h r = record { low = omega arith; on_from = each_on (p ∷ ps) h; off_before = tt }
  runs_by false p ps h r =
      let n : length (take (run_of dim ps) ps) ≡ run_of dim ps = length-take-le (run_of dim ps) ps r.low in
      subst (Runs (p ∷ ps)) (sym (add-one (run_of dim ps))) (record {
        low = omega (arith, r.low);
        on_from = r.on_from;
        off_before = last_cons (λ q. on dim q ≡ false) p (take (run_of dim ps) ps) r.off_before
            (λ e. first_off (run_of dim ps) p ps (sym n ∙ e) h r.on_from);
      })

  runs : (ps : List AxisPoint) → Runs ps (run_of dim ps)
  runs [] = record { low = omega arith; on_from = tt; off_before = tt }
  runs (p ∷ ps) = runs_by (all_on dim (p ∷ ps)) p ps refl (runs ps)

  begins_by : (j : Bool) (ps : List AxisPoint) → Runs ps (run_of dim ps) →
      MatchBool j (AllByRecursion (λ p. on dim p ≡ true) (drop (cond j (run_of dim ps) 0) ps) × Last (λ p. on dim p ≡ false) (take (cond j (run_of dim ps) 0) ps))
      (cond j (run_of dim ps) 0 ≡ 0)
  begins_by true ps r = (r.on_from, r.off_before)
  begins_by false ps r = refl

pub starts-told : StartsTold
starts-told dim ps = begins_by dim (head_on dim ps && last_on dim ps) ps (runs dim ps)
