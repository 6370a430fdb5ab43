-- Links and serifs, from what each segment chose. ch tells the choice of the segment at an index.
use Rattle.std.specs.Prelude.{ℕ, Bool, false, cond, ◌||◌, List, map, length, Some, None, Option, ◌==◌, nat_lt}
use Rattle.std.specs.List.{range_with_len}
use Rattle.segments.specs.declared.tables.Segment.{Segment}
use Rattle.linking.specs.declared.rules.Rule.{Rule}
use Rattle.linking.specs.Choices.{at, holding, score, worth, choice}

-- the choice is k
abbrev pub picks : Option ℕ → ℕ → Bool
picks None k = false
picks (Some t) k = t == k

-- only the first n choose
abbrev pub among : ℕ → (ℕ → Option ℕ) → ℕ → Option ℕ
among n ch k = cond (nat_lt k n) (ch k) None

-- k and its choice chose each other
abbrev pub returned : (ℕ → Option ℕ) → ℕ → Option ℕ → Bool
returned ch k None = false
returned ch k (Some t) = picks (ch t) k

-- k's choice is returned
abbrev pub paired : (ℕ → Option ℕ) → ℕ → Bool
paired ch k = returned ch k (ch k)

-- a choice that is returned is a link
abbrev pub link_of : (ℕ → Option ℕ) → ℕ → Option ℕ
link_of ch k = cond (paired ch k) (ch k) None

-- the serif of an unlinked segment k with the choice t: t's choice, if t is linked or t's index is the greater
abbrev pub serif_by : (ℕ → Option ℕ) → ℕ → Option ℕ → Option ℕ
serif_by ch k None = None
serif_by ch k (Some t) = cond (paired ch t || nat_lt k t) (ch t) None

-- a linked segment has no serif
abbrev pub serif_of : (ℕ → Option ℕ) → ℕ → Option ℕ
serif_of ch k = cond (paired ch k) None (serif_by ch k (ch k))

-- entry k of the linked table, among n segments
abbrev pub finished : Rule → (ℕ → Segment) → ℕ → ℕ → Segment
finished r g n k = holding (g k) (worth (score r g k) (choice r g n k)) (link_of (among n (choice r g n)) k) (serif_of (among n (choice r g n)) k)

-- the table with its first n entries scored and linked
abbrev pub linked_table : Rule → ℕ → List Segment → List Segment
linked_table r n xs = map (λ k. cond (nat_lt k n) (finished r (at xs) n k) (at xs k)) (range_with_len 0 (length xs))
