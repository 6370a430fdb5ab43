-- Lines of the card, as lists of words.
use Rattle.std.specs.Prelude.{◌≡◌, ℕ, ◌<◌, ◌≤◌, List, [], ◌∷◌, ◌++◌, length, drop, codes, decimal}
use Rattle.std.specs.List.{flat_map}
use Rattle.std.specs.Fmt.{signed_decimal}
use Rattle.segments.specs.declared.measures.Dimension.{Dimension}
use Rattle.segments.specs.declared.tables.Segment.{Segment}
use Rattle.card.specs.declared.faults.CardFault.{CardFault}
use Rattle.card.specs.declared.faults.CardFault.TheVariants.{BufferTooShort}
use Rattle.outline.specs.Words.{direction_word}
use Rattle.segments.specs.Words.{axis_word}
use Rattle.card.specs.Words.{index_word, round_word}

-- each word after a space
abbrev pub spaced : List (List ℕ) → List ℕ
spaced ws = flat_map (λ w. codes " " ++ w) ws

-- words with one space between them, and a newline
unfoldable pub line_of : List (List ℕ) → List ℕ
line_of [] = codes "\n"
line_of (w ∷ ws) = w ++ spaced ws ++ codes "\n"

-- position, delta, least and greatest coordinate, height
abbrev pub measure_words : Segment → List (List ℕ)
measure_words s =
    signed_decimal s.pos.0 ∷ signed_decimal s.delta ∷ signed_decimal s.min_coord.0 ∷ signed_decimal s.max_coord.0 ∷ decimal s.height ∷ []

-- round or not, score, link, serif
abbrev pub link_words : Segment → List (List ℕ)
link_words s = round_word s.round ∷ decimal s.score ∷ index_word s.link ∷ index_word s.serif ∷ []

-- the line of segment i of an axis
abbrev pub segment_words : Dimension → ℕ → Segment → List (List ℕ)
segment_words d i s = axis_word d ∷ decimal i ∷ direction_word s.dir ∷ measure_words s ++ link_words s

-- a line is written where 96 bytes are there: it stands at the front, and the bytes after it stay;
-- 73 bytes are enough for any segment
abbrev pub Written : List ℕ → List ℕ → List ℕ → ℕ → Type 0
Written line before after n = (96 ≤ length before) × (n ≡ length line) × (n ≤ 73) × (after ≡ line ++ drop n before)

-- a shorter buffer is refused, and stays
abbrev pub Refused : List ℕ → List ℕ → CardFault → Type 0
Refused before after BufferTooShort = (length before < 96) × (after ≡ before)
