-- What each pass leaves in a table: the terms in which the passes' own contracts are told.
use Rattle.std.specs.Prelude.{◌≡◌, ℕ, ◌+◌, ◌<◌, Bool, cond, List, length, Some, None, Option, nat_lt}
use Rattle.outline.specs.Directions.{same}
use Rattle.segments.specs.declared.tables.Segment.{Segment}
use Rattle.linking.specs.declared.rules.Rule.{Rule}
use Rattle.linking.specs.Choices.{at, holding, score, worth, ranks_before, choice}
use Rattle.linking.specs.Links.{picks, among, link_of, serif_of}

-- t has n entries, and F k is entry k
pub record Shows (n : ℕ) (F : ℕ → Segment) (t : List Segment) : Type 0 where
  pub len : length t ≡ n
  pub each : (k : ℕ) → k < n → at t k ≡ F k

-- ---- choosing

-- a segment that is offered a partner stores the one that ranks before the other
abbrev pub offered : Segment → ℕ → ℕ → Segment
offered g to s = holding g (cond (ranks_before s g.score) s g.score) (cond (ranks_before s g.score) (Some to) g.link) g.serif

-- one of two that meet: partners are offered each other
abbrev pub met : Segment → ℕ → Option ℕ → Segment
met g to None = g
met g to (Some s) = offered g to s

-- entry k once it has met the first p: its choice among them as its link, and that choice's score
abbrev pub entry : Rule → (ℕ → Segment) → ℕ → ℕ → Segment
entry r g p k = holding (g k) (worth (score r g k) (choice r g p k)) (choice r g p k) None

-- how many of n entries entry k has met when the passes below i are done
abbrev pub passed : Bool → ℕ → ℕ → ℕ → ℕ
passed major n i k = cond major (cond (nat_lt k i) n 0) i

-- entry k at that time
abbrev pub stage : Rule → (ℕ → Segment) → ℕ → ℕ → ℕ → Segment
stage r g n i k = entry r g (passed (same (g k).dir r.major) n i k) k

-- pass i takes a table from its stage to the next
abbrev pub Passes : Rule → ℕ → List Segment → List Segment → Type 0
Passes r i xs ys = (n : ℕ) (g : ℕ → Segment) → Shows n (stage r g n i) xs → Shows n (stage r g n (i + 1)) ys

-- ---- linking

-- entry k with its link and serif by the choices ch
abbrev pub settled : (ℕ → Option ℕ) → (ℕ → Segment) → ℕ → Segment
settled ch g k = holding (g k) (g k).score (link_of ch k) (serif_of ch k)

-- what a table's own links choose
abbrev pub held_choice : List Segment → ℕ → Option ℕ
held_choice xs = among (length xs) (λ k. (at xs k).link)

-- links are indices into the table, and there are no serifs
pub record Unsettled (xs : List Segment) : Type 0 where
  pub within : (k t : ℕ) → k < length xs → (at xs k).link ≡ Some t → t < length xs
  pub none : (k : ℕ) → k < length xs → (at xs k).serif ≡ None

-- one turn of the last pass, at entry i with the link l
abbrev pub released : (ℕ → Segment) → ℕ → Option ℕ → Segment
released g i None = g i
released g i (Some t) = cond (picks (g t).link i) (g i) (holding (g i) (g i).score None (g t).link)

-- the table when the turns below i are done
abbrev pub settling : List Segment → ℕ → ℕ → Segment
settling xs i k = cond (nat_lt k i) (settled (held_choice xs) (at xs) k) (at xs k)
