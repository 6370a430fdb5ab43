-- Steps round a contour.
use Rattle.std.specs.Prelude.{ℕ, zero, suc, ◌+◌, cond, List, [], ◌∷◌, length, pos, ◌+ℤ◌, ◌-ℤ◌, nat_lt, slice_index_or, unsigned_abs}
use Rattle.outline.specs.declared.points.DrawnPoint.{DrawnPoint}
use Rattle.outline.specs.declared.points.PointKind.TheVariants.{Control}
use Rattle.walk.specs.declared.steps.Step.{Step}

-- what stands past a contour's end
abbrev pub origin : DrawnPoint
origin = record { x = pos 0; y = pos 0; kind = Control }

-- the index after i, round a contour of n points
abbrev pub following : ℕ → ℕ → ℕ
following n i = cond (nat_lt (i + 1) n) (i + 1) 0

-- the step from p to q
abbrev pub step_of : DrawnPoint → DrawnPoint → Step
step_of p q = record { dx = q.x -ℤ p.x; dy = q.y -ℤ p.y }

-- the vector from point i to point j
abbrev pub vector : List DrawnPoint → ℕ → ℕ → Step
vector ps i j = step_of (slice_index_or ps i origin) (slice_index_or ps j origin)

-- the step that leaves point i
abbrev pub leaving : List DrawnPoint → ℕ → Step
leaving ps i = vector ps i (following (length ps) i)

-- the m steps from point i on
unfoldable pub steps_from : List DrawnPoint → ℕ → ℕ → List Step
steps_from ps i zero = []
steps_from ps i (suc m) = leaving ps i ∷ steps_from ps (following (length ps) i) m

-- steps are added up, at first from none
abbrev pub no_step : Step
no_step = record { dx = pos 0; dy = pos 0 }

-- one step after another
abbrev pub plus : Step → Step → Step
plus s t = record { dx = s.dx +ℤ t.dx; dy = s.dy +ℤ t.dy }

-- |x| + |y|
abbrev pub taxicab : Step → ℕ
taxicab s = unsigned_abs s.dx + unsigned_abs s.dy
