-- The working marks of a contour's points, and how the walk writes them.
use Rattle.std.specs.Prelude.{ℕ, Bool, false, cond, not, List, [], ◌∷◌, length, slice_index_or, slice_set}
use Rattle.outline.specs.declared.directions.Direction.{Direction}
use Rattle.outline.specs.declared.directions.Direction.TheVariants.{None}
use Rattle.outline.specs.declared.points.DrawnPoint.{DrawnPoint}
use Rattle.walk.specs.declared.legs.Leg.{Leg}
use Rattle.walk.specs.declared.marks.Mark.{Mark}
use Rattle.walk.specs.Steps.{following, steps_from, no_step}
use Rattle.walk.specs.Starts.{start_of}
use Rattle.walk.specs.Legs.{cuts, spread}

-- the mark of a point before the analysis
abbrev pub blank : Mark
blank = record { weak = false; in_dir = None; out_dir = None; u = 0; v = 0 }

-- a mark with one part changed
abbrev pub with_u : ℕ → Mark → Mark
with_u n m = record { weak = m.weak; in_dir = m.in_dir; out_dir = m.out_dir; u = n; v = m.v }

abbrev pub with_v : ℕ → Mark → Mark
with_v n m = record { weak = m.weak; in_dir = m.in_dir; out_dir = m.out_dir; u = m.u; v = n }

abbrev pub with_weak : Bool → Mark → Mark
with_weak w m = record { weak = w; in_dir = m.in_dir; out_dir = m.out_dir; u = m.u; v = m.v }

abbrev pub with_out : Direction → Mark → Mark
with_out d m = record { weak = m.weak; in_dir = m.in_dir; out_dir = d; u = m.u; v = m.v }

abbrev pub with_in : Direction → Mark → Mark
with_in d m = record { weak = m.weak; in_dir = d; out_dir = m.out_dir; u = m.u; v = m.v }

-- the marks with that of point i changed by f
abbrev pub at : ℕ → (Mark → Mark) → List Mark → List Mark
at i f ms = slice_set ms i (f (slice_index_or ms i blank))

-- point a takes b as its u, and point b takes a as its v
abbrev pub join : ℕ → ℕ → List Mark → List Mark
join a b ms = at b (with_v a) (at a (with_u b) ms)

-- A step from point i to point j has its sum's direction, which is the out_dir of i and the in_dir of j;
-- j is weak unless it is the end of the sum.
abbrev pub stepped : ℕ → ℕ → Leg → List Mark → List Mark
stepped i j l ms = at j (with_weak (not l.end)) (at j (with_in l.dir) (at i (with_out l.dir) ms))

-- the last end, once this step has come to j
abbrev pub last_end : ℕ → ℕ → Leg → ℕ
last_end e j l = cond l.end j e

-- an end is joined to the end e before it
abbrev pub dealt : ℕ → ℕ → ℕ → Leg → List Mark → List Mark
dealt e i j l ms = cond l.end (join e j (stepped i j l ms)) (stepped i j l ms)

-- The steps ls from point i on, round a contour of n points that is entered at s; e is the last end so far, at first s.
-- After the last end comes s again.
unfoldable pub dealt_all : ℕ → ℕ → ℕ → ℕ → List Leg → List Mark → List Mark
dealt_all n s e i [] ms = join e s ms
dealt_all n s e i (l ∷ ls) ms = dealt_all n s (last_end e (following n i) l) (following n i) ls (dealt e i (following n i) l ms)

-- The walk: where it starts, the sums of the steps from there, and what they write.
unfoldable pub walked : ℕ → List DrawnPoint → List Mark → List Mark
walked N ps ms =
    let s = start_of N ps in
    dealt_all (length ps) s s s (spread (cuts N no_step (steps_from ps s (length ps)))) ms
