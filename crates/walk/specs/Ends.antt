-- The walk in other words: the ends that it finds, and what its marks say of them.
use Rattle.std.specs.Prelude.{◌≡◌, ℕ, zero, suc, ◌<◌, true, cond, not, ◌⊎◌, List, [], ◌∷◌, ◌++◌, length, Decides, ◌≢◌, nat_lt, slice_index_or}
use Rattle.std.specs.List.{ContainsAt}
use Rattle.outline.specs.declared.directions.Direction.{Direction}
use Rattle.outline.specs.declared.directions.Direction.TheVariants.{None}
use Rattle.outline.specs.declared.points.DrawnPoint.{DrawnPoint}
use Rattle.outline.specs.Directions.{direction}
use Rattle.walk.specs.declared.steps.Step.{Step}
use Rattle.walk.specs.declared.marks.Mark.{Mark}
use Rattle.walk.specs.Steps.{following, vector, steps_from, no_step, plus, taxicab}
use Rattle.walk.specs.Starts.{start_of}
use Rattle.walk.specs.Marks.{blank}

-- The ends that m steps from point i on find, in their order, where the sum began at point a:
-- a point is an end where |x| + |y| of the vector from where the sum began is at least N. A new sum begins there.
unfoldable pub ends_from : ℕ → List DrawnPoint → ℕ → ℕ → ℕ → List ℕ
ends_from N ps a i zero = []
ends_from N ps a i (suc m) =
    cond (nat_lt (taxicab (vector ps a (following (length ps) i))) N)
    (ends_from N ps a (following (length ps) i) m)
    (following (length ps) i ∷ ends_from N ps (following (length ps) i) (following (length ps) i) m)

-- the ends of a contour: once round from s
abbrev pub ends_of : ℕ → List DrawnPoint → List ℕ
ends_of N ps = ends_from N ps (start_of N ps) (start_of N ps) (length ps)

-- the first and the last of a list, or x where it is empty
abbrev pub first_or : ℕ → List ℕ → ℕ
first_or x [] = x
first_or x (y ∷ ys) = y

abbrev pub last_or : ℕ → List ℕ → ℕ
last_or x [] = x
last_or x (y ∷ ys) = last_or y ys

-- the direction of the vector from point i to point j
abbrev pub direction_to : List DrawnPoint → ℕ → ℕ → Direction
direction_to ps i j = direction (vector ps i j).dx (vector ps i j).dy

-- the mark of point i
abbrev pub mark : List Mark → ℕ → Mark
mark ms i = slice_index_or ms i blank

-- What the marks of a contour say after the walk; s is where it starts.
pub record WalkedRound (N : ℕ) (ps : List DrawnPoint) (ms : List Mark) : Type 0 where
  -- a point is not weak exactly where it is an end
  pub ends : (i : ℕ) → i < length ps → Decides (not (mark ms i).weak) (ContainsAt (ends_of N ps) i)
  -- v of an end is the end before it, and u the end after it; s comes before the first end and after the last
  pub chain : (xs ys : List ℕ) (e : ℕ) → ends_of N ps ≡ xs ++ (e ∷ ys) → (e ≢ start_of N ps)
      → ((mark ms e).v ≡ last_or (start_of N ps) xs) × ((mark ms e).u ≡ first_or (start_of N ps) ys)
  -- where s itself is an end, or there is none, u and v of s are s itself
  pub start : ContainsAt (ends_of N ps) (start_of N ps) ⊎ (ends_of N ps ≡ [])
      → ((mark ms (start_of N ps)).v ≡ start_of N ps) × ((mark ms (start_of N ps)).u ≡ start_of N ps)
  -- the direction that comes in at an end is that of the vector from the end before it, where the sum began
  pub sums : (xs ys : List ℕ) (e : ℕ) → ends_of N ps ≡ xs ++ (e ∷ ys)
      → (mark ms e).in_dir ≡ direction_to ps (last_or (start_of N ps) xs) e
  -- a sum that is not finished when s is met again has no direction
  pub unfinished : (ContainsAt (ends_of N ps) (start_of N ps) → ⊥) → (mark ms (start_of N ps)).in_dir ≡ None
  -- a step has one direction, which goes out where it begins and comes in where it ends
  pub steps : (i : ℕ) → i < length ps → (mark ms i).out_dir ≡ (mark ms (following (length ps) i)).in_dir
  -- a sum goes on at a weak point with the direction that it came in with
  pub passes : (i : ℕ) → i < length ps → (i ≢ start_of N ps) → (mark ms i).weak ≡ true → (mark ms i).out_dir ≡ (mark ms i).in_dir

-- steps that are added to s
unfoldable pub added : Step → List Step → Step
added s [] = s
added s (d ∷ ds) = added (plus s d) ds

-- the point that m steps from point i come to
unfoldable pub arrived : ℕ → ℕ → ℕ → ℕ
arrived n i zero = i
arrived n i (suc m) = arrived n (following n i) m

-- a sum of steps is the vector between the points where it began and where it came to
abbrev pub SumsAreVectors : List DrawnPoint → Type 0
SumsAreVectors ps = (i m : ℕ) → added no_step (steps_from ps i m) ≡ vector ps i (arrived (length ps) i m)
