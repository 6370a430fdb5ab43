-- One step of either pass, and one more point.
use Rattle.std.proofs.Common.{◌≡◌, ℕ, ◌+◌, Bool, true, false, List, get_or, ℤ, sym, refl, ap, ◌∙◌, add-one}
use Rattle.std.proofs.lemmas.Bool.{cond-true, cond-false}
use Rattle.outline.specs.declared.points.DrawnPoint.{DrawnPoint}
use Rattle.walk.specs.declared.marks.Mark.{Mark}
use Rattle.walk.specs.Marks.{blank}
use Rattle.analysis.specs.declared.verdicts.Verdict.{Verdict}
use Rattle.analysis.specs.Passes.{passed, is_straight, bypass, simplified_at, judged, applied, checked_at}

-- one step of the first pass
pub simplified_yes : (ps : List DrawnPoint) (i : ℕ) (ms xs : List Mark) (r : Bool)
    → r ≡ true → r ≡ is_straight ps i (get_or ms i blank) → xs ≡ bypass i (get_or ms i blank) ms → xs ≡ simplified_at ps i ms
unfolding simplified_at
simplified_yes ps i ms xs r e₁ e₂ e₃ = e₃ ∙ sym (cond-true _ _ _ (sym e₂ ∙ e₁))

pub simplified_no : (ps : List DrawnPoint) (i : ℕ) (ms : List Mark) (r : Bool)
    → r ≡ false → r ≡ is_straight ps i (get_or ms i blank) → ms ≡ simplified_at ps i ms
unfolding simplified_at
simplified_no ps i ms r e₁ e₂ = sym (cond-false _ _ _ (sym e₂ ∙ e₁))

-- one step of the second pass
pub checked_step : (F : ℤ → ℤ → ℤ → ℤ → Bool) (ps : List DrawnPoint) (i : ℕ) (ms xs : List Mark) (r : Verdict)
    → r ≡ judged F ps i (get_or ms i blank) → xs ≡ applied r i (get_or ms i blank) ms → xs ≡ checked_at F ps i ms
unfolding checked_at
checked_step F ps i ms xs r e a = a ∙ ap (λ (v : Verdict). applied v i (get_or ms i blank) ms) e

-- a pass: one more point
pub passed-more : (f : ℕ → List Mark → List Mark) (i : ℕ) (ms xs ys : List Mark)
    → xs ≡ passed f i ms → ys ≡ f i xs → ys ≡ passed f (i + 1) ms
unfolding passed
passed-more f i ms xs ys e₁ e₂ = rw add-one (e₂ ∙ ap (f i) e₁)

pub passed_none : (f : ℕ → List Mark → List Mark) (ms : List Mark) → ms ≡ passed f 0 ms
unfolding passed
passed_none f ms = refl
