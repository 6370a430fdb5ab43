-- Steps are added up, and a sum that is long enough has a direction (af_glyph_hints_reload).
use Rattle.std.specs.Prelude.{ℕ, true, false, cond, List, [], ◌∷◌, nat_lt}
use Rattle.outline.specs.declared.directions.Direction.{Direction}
use Rattle.outline.specs.declared.directions.Direction.TheVariants.{None}
use Rattle.outline.specs.Directions.{direction}
use Rattle.walk.specs.declared.steps.Step.{Step}
use Rattle.walk.specs.declared.legs.Leg.{Leg}
use Rattle.walk.specs.Steps.{no_step, plus, taxicab}

-- a step of a sum that is not finished
abbrev pub no_leg : Leg
no_leg = record { dir = None; end = false }

-- Where a sum has come to s: it goes on while |x| + |y| is below N, and else ends with its direction,
abbrev pub leg_of : ℕ → Step → Leg
leg_of N s = cond (nat_lt (taxicab s) N) no_leg (record { dir = direction s.dx s.dy; end = true })

-- and a new sum begins there.
abbrev pub rest_of : ℕ → Step → Step
rest_of N s = cond (nat_lt (taxicab s) N) s no_step

-- the steps ds, added up from s on
unfoldable pub cuts : ℕ → Step → List Step → List Leg
cuts N s [] = []
cuts N s (d ∷ ds) = leg_of N (plus s d) ∷ cuts N (rest_of N (plus s d)) ds

-- the direction of the sum that goes on at the first of these steps; None where no step is left
abbrev pub first_dir : List Leg → Direction
first_dir [] = None
first_dir (l ∷ ls) = l.dir

-- a step that does not end its sum has the direction of the next one
abbrev pub in_sum : Direction → Leg → Leg
in_sum d l = cond l.end l (record { dir = d; end = false })

-- each step has the direction of its sum; an unfinished sum gives None
unfoldable pub spread : List Leg → List Leg
spread [] = []
spread (l ∷ ls) = in_sum (first_dir (spread ls)) l ∷ spread ls
