-- The laws of a linked table, in the subject's words. ys is what linking the first n of xs leaves.
use Rattle.std.specs.Prelude.{◌≡◌, ℕ, ◌<◌, ◌≤◌, ◌⊎◌, List, length, pos, ◌-ℤ◌, ◌≤ℤ◌, ◌<ℤ◌, Some, None}
use Rattle.std.specs.Int.{int_min, int_max}
use Rattle.outline.specs.Directions.{Opposite}
use Rattle.segments.specs.declared.tables.Segment.{Segment}
use Rattle.linking.specs.declared.rules.Rule.{Rule}
use Rattle.linking.specs.Rules.{cost}
use Rattle.linking.specs.Choices.{at}

-- a of the major direction and b of the opposite one are partners when b's position is greater and
-- the smaller greatest coordinate less the larger least is at least T
pub record Partners (r : Rule) (a b : Segment) : Type 0 where
  pub of_major : a.dir ≡ r.major
  pub of_opposite : Opposite r.major b.dir
  pub beyond : a.pos.0 <ℤ b.pos.0
  pub overlapping : pos r.threshold ≤ℤ (int_min a.max_coord.0 b.max_coord.0 -ℤ int_max a.min_coord.0 b.min_coord.0)

-- a and b are partners, either way round, at the score s
abbrev pub PartnersAt : Rule → Segment → Segment → ℕ → Type 0
PartnersAt r a b s = (Partners r a b × (s ≡ cost r a b)) ⊎ (Partners r b a × (s ≡ cost r b a))

-- j is i's lowest-scoring partner below 32,000, the first by index on a tie
pub record Chooses (r : Rule) (n : ℕ) (xs : List Segment) (i j : ℕ) : Type 0 where
  pub inside : j < n
  pub scored : ℕ
  pub partner : PartnersAt r (at xs i) (at xs j) scored
  pub below : scored < 32000
  pub lowest : (k s : ℕ) → k < n → PartnersAt r (at xs i) (at xs k) s → scored ≤ s
  pub first : (k s : ℕ) → k < j → PartnersAt r (at xs i) (at xs k) s → scored < s

-- links
pub record Stems (r : Rule) (n : ℕ) (xs ys : List Segment) : Type 0 where
  -- linked exactly when each is the other's choice
  pub chose : (i j : ℕ) → i < n → (at ys i).link ≡ Some j → Chooses r n xs i j × Chooses r n xs j i
  pub linked : (i j : ℕ) → i < n → Chooses r n xs i j → Chooses r n xs j i → (at ys i).link ≡ Some j
  -- a link is returned, and no third segment has it
  pub returned : (i j : ℕ) → i < n → (at ys i).link ≡ Some j → (at ys j).link ≡ Some i
  pub alone : (i j k : ℕ) → i < n → k < n → (at ys i).link ≡ Some j → (at ys k).link ≡ Some j → k ≡ i

-- i chooses none
abbrev pub ChoosesNone : Rule → ℕ → List Segment → ℕ → Type 0
ChoosesNone r n xs i = (j : ℕ) → Chooses r n xs i j → ⊥

-- scores
pub record Scores (r : Rule) (n : ℕ) (xs ys : List Segment) : Type 0 where
  -- a segment with a choice has the choice's score, one without has 32,000
  pub chosen : (i j : ℕ) → i < n → (c : Chooses r n xs i j) → (at ys i).score ≡ c.scored
  pub unchosen : (i : ℕ) → i < n → ChoosesNone r n xs i → (at ys i).score ≡ 32000
  -- no partner scores less
  pub lowest : (i k s : ℕ) → i < n → k < n → PartnersAt r (at xs i) (at xs k) s → (at ys i).score ≤ s

-- t is linked
abbrev pub Linked : List Segment → ℕ → Type 0
Linked ys t = (u : ℕ) × ((at ys t).link ≡ Some u)

-- serifs
pub record Serifs (r : Rule) (n : ℕ) (xs ys : List Segment) : Type 0 where
  -- a segment that is not linked and chooses t has as serif t's choice, if t is linked or t's index is the greater
  pub given : (i t : ℕ) → i < n → (at ys i).link ≡ None → Chooses r n xs i t → Linked ys t ⊎ (i < t) → (u : ℕ) × (Chooses r n xs t u × ((at ys i).serif ≡ Some u))
  -- else none
  pub withheld : (i t : ℕ) → i < n → (at ys i).link ≡ None → Chooses r n xs i t → (at ys t).link ≡ None → t ≤ i → (at ys i).serif ≡ None
  -- nor has a linked segment one, or one that chooses none
  pub linked : (i : ℕ) → i < n → Linked ys i → (at ys i).serif ≡ None
  pub unchosen : (i : ℕ) → i < n → ChoosesNone r n xs i → (at ys i).serif ≡ None

-- b is a but for its score, link and serif
pub record SameUnlinked (a b : Segment) : Type 0 where
  pub dir : b.dir ≡ a.dir
  pub position : b.pos ≡ a.pos
  pub delta : b.delta ≡ a.delta
  pub least : b.min_coord ≡ a.min_coord
  pub greatest : b.max_coord ≡ a.max_coord
  pub height : b.height ≡ a.height
  pub round : b.round ≡ a.round
  pub first : b.first ≡ a.first
  pub last : b.last ≡ a.last

-- all else stays
pub record Keeps (n : ℕ) (xs ys : List Segment) : Type 0 where
  pub len : length ys ≡ length xs
  pub front : (k : ℕ) → k < n → SameUnlinked (at xs k) (at ys k)
  pub rest : (k : ℕ) → n ≤ k → at ys k ≡ at xs k

-- the laws together
pub record Linking (r : Rule) (n : ℕ) (xs ys : List Segment) : Type 0 where
  pub stems : Stems r n xs ys
  pub scores : Scores r n xs ys
  pub serifs : Serifs r n xs ys
  pub keeps : Keeps n xs ys
