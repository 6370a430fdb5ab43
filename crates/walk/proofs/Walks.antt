-- One turn of the walk.
use Rattle.std.proofs.Common.{◌≡◌, ℕ, suc, ◌+◌, ◌-◌, ◌<◌, ◌≤◌, List, [], ◌∷◌, ◌++◌, length, take, set, refl, append_assoc, arith}
use Rattle.std.proofs.lemmas.List.{take_more_set, take_all, append-nil}
use Rattle.outline.specs.declared.points.DrawnPoint.{DrawnPoint}
use Rattle.walk.specs.declared.steps.Step.{Step}
use Rattle.walk.specs.declared.legs.Leg.{Leg}
use Rattle.walk.specs.Steps.{following, leaving, steps_from, plus}
use Rattle.walk.specs.Legs.{leg_of, rest_of, cuts}

-- the first step of those that are left
cuts_first : (N : ℕ) (ps : List DrawnPoint) (i m : ℕ) (s : Step)
    → cuts N s (steps_from ps i (suc m))
    ≡ leg_of N (plus s (leaving ps i)) ∷ cuts N (rest_of N (plus s (leaving ps i))) (steps_from ps (following (length ps) i) m)
unfolding cuts steps_from
cuts_first N ps i m s = refl

cuts-none : (N : ℕ) (ps : List DrawnPoint) (i : ℕ) (s : Step) → cuts N s (steps_from ps i 0) ≡ []
unfolding cuts steps_from
cuts-none N ps i s = refl

pub cuts-more : (N : ℕ) (ps : List DrawnPoint) (legs : List Leg) (k i : ℕ) (s : Step) (d t rest : Step) (leg : Leg) (j : ℕ)
    → k < length legs → k < length ps
    → d ≡ leaving ps i → t ≡ plus s d → leg ≡ leg_of N t → rest ≡ rest_of N t → j ≡ following (length ps) i
    → take (k + 1) (set legs k leg) ++ cuts N rest (steps_from ps j (length ps - (k + 1)))
    ≡ take k legs ++ cuts N s (steps_from ps i (length ps - k))
cuts-more N ps legs k i s d t rest leg j in' more e₁ e₂ e₃ e₄ e₅ =
    let left : length ps - k ≡ suc (length ps - (k + 1)) = omega arith in
    let first = cuts_first N ps i (length ps - (k + 1)) s in
    let front = take_more_set legs k leg in' in
    let group = append_assoc (take k legs) (leg ∷ []) (cuts N rest (steps_from ps j (length ps - (k + 1)))) in
    cc

pub cuts-all : (N : ℕ) (ps : List DrawnPoint) (legs : List Leg) (k i n : ℕ) (s : Step)
    → n ≤ k → length legs ≤ k
    → take k legs ++ cuts N s (steps_from ps i (n - k)) ≡ legs
cuts-all N ps legs k i n s done in' =
    let none : n - k ≡ 0 = omega arith in
    let end = cuts-none N ps i s in
    let whole = take_all k legs in' in
    let nil = append-nil legs in
    cc
