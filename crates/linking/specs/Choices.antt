-- What each segment of a table chooses. g tells the segment at an index.
use Rattle.std.specs.Prelude.{ℕ, zero, suc, Bool, false, cond, List, pos, Some, None, Option, nat_lt, slice_index_or}
use Rattle.outline.specs.declared.directions.Direction.TheVariants as dir
use Rattle.outline.specs.Directions.{same}
use Rattle.segments.specs.declared.tables.Segment.{Segment}
use Rattle.linking.specs.declared.rules.Rule.{Rule}
use Rattle.linking.specs.Rules.{price}

-- what stands past a table's end
abbrev pub blank : Segment
blank = record { dir = dir.None; pos = record { 0 = pos 0 }; delta = pos 0; min_coord = record { 0 = pos 0 }; max_coord = record { 0 = pos 0 }; height = 0; round = false; score = 0; link = None; serif = None; first = 0; last = 0 }

-- entry k of a table
abbrev pub at : List Segment → ℕ → Segment
at xs k = slice_index_or xs k blank

-- the segment with another score, link and serif
abbrev pub holding : Segment → ℕ → Option ℕ → Option ℕ → Segment
holding g s l f = record { dir = g.dir; pos = g.pos; delta = g.delta; min_coord = g.min_coord; max_coord = g.max_coord; height = g.height; round = g.round; score = s; link = l; serif = f; first = g.first; last = g.last }

-- the score of k with p, whichever of them is of the major direction; 32,000 where they are no partners
abbrev pub score : Rule → (ℕ → Segment) → ℕ → ℕ → ℕ
score r g k p = cond (same (g k).dir r.major) (price r (g k) (g p)) (price r (g p) (g k))

-- a choice's score, 32,000 where there is none
abbrev pub worth : (ℕ → ℕ) → Option ℕ → ℕ
worth s None = 32000
worth s (Some p) = s p

-- the order of partners, by their scores: the lower one comes first
abbrev pub ranks_before : ℕ → ℕ → Bool
ranks_before s t = nat_lt s t

-- who may be chosen
abbrev pub able : (ℕ → ℕ) → ℕ → Bool
able s p = nat_lt (s p) 32000

-- who ranks before whom
abbrev pub ranked : (ℕ → ℕ) → ℕ → ℕ → Bool
ranked s p c = ranks_before (s p) (s c)

-- p takes the place of what is held
abbrev pub ahead : (ℕ → Bool) → (ℕ → ℕ → Bool) → ℕ → Option ℕ → Bool
ahead ok lt p None = ok p
ahead ok lt p (Some c) = lt p c

-- the first of the best among the indices below n
abbrev pub chosen : (ℕ → Option ℕ → Bool) → ℕ → Option ℕ
chosen before zero = None
chosen before (suc p) = cond (before p (chosen before p)) (Some p) (chosen before p)

-- what k chooses among the first p
abbrev pub choice : Rule → (ℕ → Segment) → ℕ → ℕ → Option ℕ
choice r g p k = chosen (ahead (able (score r g k)) (ranked (score r g k))) p
