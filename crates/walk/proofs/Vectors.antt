-- A sum of steps is the vector from where it began.
use Rattle.std.proofs.Common.{◌≡◌, ℕ, zero, suc, ◌<◌, ◌≤◌, true, false, cond, ltb, List, [], ◌∷◌, length, get_or, ℤ, sym, refl, ap, ◌∙◌, subst, inl, inr, arith}
use Rattle.std.proofs.lemmas.Int.{ints}
use Rattle.std.proofs.lemmas.Bool.{cond-true, cond-false, cases_Bool, false≢true}
use Rattle.outline.specs.declared.points.DrawnPoint.{DrawnPoint}
use Rattle.outline.specs.Directions.{direction}
use Rattle.walk.specs.declared.steps.Step.{Step}
use Rattle.walk.specs.declared.legs.Leg.{Leg}
use Rattle.walk.specs.Steps.{origin, following, step_of, vector, leaving, steps_from, no_step, plus, taxicab}
use Rattle.walk.specs.Legs.{no_leg, leg_of, rest_of, cuts, first_dir, spread}
use Rattle.walk.specs.Marks.{last_end}
use Rattle.walk.specs.Ends.{ends_from, direction_to, added, arrived, SumsAreVectors}
use Rattle.walk.proofs.Spreads.{spread-cons}
use Rattle.walk.proofs.Places.{place, place-next}
use Rattle.walk.proofs.Chains.{leg_ends, ends_more, ends_same}
use Rattle.walk.proofs.Directed.{Direct}

step_same : (a b c d : ℤ) → a ≡ b → c ≡ d → ◌≡◌ {A = Step} (record { dx = a; dy = c }) (record { dx = b; dy = d })
step_same a b c d e f = simp (e, f)

-- from p to q and on to r
across : (p q r : DrawnPoint) → plus (step_of p q) (step_of q r) ≡ step_of p r
across p q r = step_same _ _ _ _ (omega (arith, ints)) (omega (arith, ints))

nowhere : (p : DrawnPoint) → no_step ≡ step_of p p
nowhere p = step_same _ _ _ _ (omega (arith, ints)) (omega (arith, ints))

added_vectors : (ps : List DrawnPoint) (a i m : ℕ) (s : Step) → s ≡ vector ps a i
    → added s (steps_from ps i m) ≡ vector ps a (arrived (length ps) i m)
unfolding steps_from added arrived
added_vectors ps a i zero s h = h
added_vectors ps a i (suc m) s h =
    let j = following (length ps) i in
    added_vectors ps a j m (plus s (leaving ps i))
    (ap (λ (v : Step). plus v (leaving ps i)) h ∙ across (get_or ps a origin) (get_or ps i origin) (get_or ps j origin))

pub sums_are_vectors : (ps : List DrawnPoint) → SumsAreVectors ps
sums_are_vectors ps i m = added_vectors ps i i m no_step (nowhere (get_or ps i origin))

-- the legs of sums that are taken as vectors: the sum began at a, and has come to i
unfoldable pub vector_cuts : ℕ → List DrawnPoint → ℕ → ℕ → ℕ → List Leg
vector_cuts N ps a i zero = []
vector_cuts N ps a i (suc m) =
    leg_of N (vector ps a (following (length ps) i))
    ∷ vector_cuts N ps (last_end a (following (length ps) i) (leg_of N (vector ps a (following (length ps) i)))) (following (length ps) i) m

-- what is left of a sum that began at a and has come to j
rest_is : (N a j : ℕ) (ps : List DrawnPoint) → rest_of N (vector ps a j) ≡ vector ps (last_end a j (leg_of N (vector ps a j))) j
rest_is N a j ps =
    elim (cases_Bool (ltb (taxicab (vector ps a j)) N)) [
      | inl y ↦ simp y
      | inr z ↦ simp z (nowhere (get_or ps j origin))
    ]

cuts_from : (N : ℕ) (ps : List DrawnPoint) (a i m : ℕ) (s : Step) → s ≡ vector ps a i
    → cuts N s (steps_from ps i m) ≡ vector_cuts N ps a i m
unfolding cuts steps_from vector_cuts
cuts_from N ps a i zero s h = refl
cuts_from N ps a i (suc m) s h =
    let j = following (length ps) i in
    let t : plus s (leaving ps i) ≡ vector ps a j =
    ap (λ (v : Step). plus v (leaving ps i)) h ∙ across (get_or ps a origin) (get_or ps i origin) (get_or ps j origin) in
    let more = cuts_from N ps (last_end a j (leg_of N (vector ps a j))) j m (rest_of N (vector ps a j)) (rest_is N a j ps) in
    ap (λ (u : Step). leg_of N u ∷ cuts N (rest_of N u) (steps_from ps j m)) t ∙ ap (λ (ls : List Leg). leg_of N (vector ps a j) ∷ ls) more

pub cuts_vectors : (N : ℕ) (ps : List DrawnPoint) (s m : ℕ) → cuts N no_step (steps_from ps s m) ≡ vector_cuts N ps s s m
cuts_vectors N ps s m = cuts_from N ps s s m no_step (nowhere (get_or ps s origin))

pub length-cuts : (N : ℕ) (ps : List DrawnPoint) (a i m : ℕ) → length (spread (vector_cuts N ps a i m)) ≡ m
unfolding vector_cuts spread
length-cuts N ps a i zero = refl
length-cuts N ps a i (suc m) =
    let j = following (length ps) i in
    ap suc (length-cuts N ps (last_end a j (leg_of N (vector ps a j))) j m)

-- a sum goes on or ends
leg_on : (N : ℕ) (v : Step) → ltb (taxicab v) N ≡ true → leg_of N v ≡ no_leg
leg_on N v y = cond-true _ _ _ y

leg_end : (N : ℕ) (v : Step) → ltb (taxicab v) N ≡ false → leg_of N v ≡ record { dir = direction v.dx v.dy; end = true }
leg_end N v z = cond-false _ _ _ z

-- Sums on the way round from s, with m steps left.
module _ (N : ℕ) (ps : List DrawnPoint) (s : ℕ) (in_s : s < length ps) where
  abbrev spot : ℕ → ℕ
  spot m = place (length ps) s m

  abbrev pub legs_from : ℕ → ℕ → List Leg
  legs_from a m = spread (vector_cuts N ps a (spot m) m)

  -- the sum goes on at the next point
  abbrev On : ℕ → ℕ → Type 0
  On a m = ltb (taxicab (vector ps a (spot m))) N ≡ true

  abbrev Ends : ℕ → ℕ → Type 0
  Ends a m = ltb (taxicab (vector ps a (spot m))) N ≡ false

  cuts-next : (a m : ℕ) → suc m ≤ length ps
      → vector_cuts N ps a (spot (suc m)) (suc m)
      ≡ leg_of N (vector ps a (spot m)) ∷ vector_cuts N ps (last_end a (spot m) (leg_of N (vector ps a (spot m)))) (spot m) m
  unfolding vector_cuts
  cuts-next a m fits = rw (place-next (length ps) s m in_s fits) refl

  ends_next : (a m : ℕ) → suc m ≤ length ps
      → ends_from N ps a (spot (suc m)) (suc m)
      ≡ cond (ltb (taxicab (vector ps a (spot m))) N) (ends_from N ps a (spot m) m) (spot m ∷ ends_from N ps (spot m) (spot m) m)
  unfolding ends_from
  ends_next a m fits = rw (place-next (length ps) s m in_s fits) refl

  legs-on : (a m : ℕ) → suc m ≤ length ps → On a m
      → legs_from a (suc m) ≡ record { dir = first_dir (legs_from a m); end = false } ∷ legs_from a m
  legs-on a m fits y =
      let next = cuts-next a m fits in
      let leg = leg_on N (vector ps a (spot m)) y in
      let cons = spread-cons no_leg (vector_cuts N ps a (spot m) m) in
      ap spread (next ∙ rw leg refl) ∙ cons

  legs_end : (a m : ℕ) → suc m ≤ length ps → Ends a m
      → legs_from a (suc m) ≡ record { dir = direction_to ps a (spot m); end = true } ∷ legs_from (spot m) m
  legs_end a m fits z =
      let next = cuts-next a m fits in
      let leg = leg_end N (vector ps a (spot m)) z in
      let cons = spread-cons (record { dir = direction_to ps a (spot m); end = true }) (vector_cuts N ps (spot m) (spot m) m) in
      ap spread (next ∙ rw leg refl) ∙ cons

  -- the ends are those that the vectors give
  pub ends_are : (a m : ℕ) → m ≤ length ps → leg_ends (length ps) s (legs_from a m) ≡ ends_from N ps a (spot m) m
  unfolding leg_ends spread vector_cuts ends_from
  ends_are a zero fits = refl
  ends_are a (suc m) fits =
      elim (cases_Bool (ltb (taxicab (vector ps a (spot m))) N)) [
        | inl y ↦
            ap (leg_ends (length ps) s) (legs-on a m fits y) ∙ ends_same (length ps) s (record { dir = first_dir (legs_from a m); end = false }) (legs_from a m) refl ∙ ends_are a m (omega arith)
            ∙ sym (ends_next a m fits ∙ cond-true _ _ _ y)
        | inr z ↦
            let long = length-cuts N ps (spot m) (spot m) m in
            let more = ends_are (spot m) m (omega arith) in
            ap (leg_ends (length ps) s) (legs_end a m fits z) ∙ ends_more (length ps) s (record { dir = direction_to ps a (spot m); end = true }) (legs_from (spot m) m) refl
            ∙ rw long (ap (λ (es : List ℕ). spot m ∷ es) more)
            ∙ sym (ends_next a m fits ∙ cond-false _ _ _ z)
      ]

  -- and the directions too
  pub direct_are : (a m : ℕ) → m ≤ length ps → Direct (length ps) s in_s ps a (legs_from a m)
  unfolding spread vector_cuts
  direct_are a zero fits = tt
  direct_are a (suc m) fits =
      elim (cases_Bool (ltb (taxicab (vector ps a (spot m))) N)) [
        | inl y ↦
            subst (λ (ls : List Leg). Direct (length ps) s in_s ps a ls) (sym (legs-on a m fits y))
            (λ (e : false ≡ true). absurd (false≢true e), direct_are a m (omega arith))
        | inr z ↦
            let long = length-cuts N ps (spot m) (spot m) m in
            subst (λ (ls : List Leg). Direct (length ps) s in_s ps a ls) (sym (legs_end a m fits z))
            (rw long (λ _. refl, direct_are (spot m) m (omega arith)))
      ]
