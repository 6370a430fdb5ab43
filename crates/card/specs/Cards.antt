-- The whole card.
use Rattle.std.specs.Prelude.{ℕ, suc, ◌+◌, List, [], ◌∷◌, ◌++◌, codes, decimal, Option}
use Rattle.outline.specs.declared.orientations.Orientation.{Orientation}
use Rattle.segments.specs.declared.measures.Dimension.{Dimension}
use Rattle.segments.specs.declared.measures.Dimension.TheVariants.{Horizontal, Vertical}
use Rattle.segments.specs.declared.tables.Segment.{Segment}
use Rattle.outline.specs.Words.{area_word}
use Rattle.card.specs.declared.texts.Card.{Card}
use Rattle.card.specs.Lines.{line_of, segment_words}
use Rattle.card.specs.Stems.{stem_count}

-- how many points and contours, and the sign of the area
abbrev pub head_words : ℕ → ℕ → Option Orientation → List (List ℕ)
head_words points contours orientation =
    codes "points" ∷ decimal points ∷ codes "contours" ∷ decimal contours ∷ codes "area" ∷ area_word orientation ∷ []

-- a line for each segment of an axis, numbered from i on
abbrev pub segment_lines : Dimension → ℕ → List Segment → List ℕ
segment_lines d i [] = []
segment_lines d i (s ∷ ss) = line_of (segment_words d i s) ++ segment_lines d (suc i) ss

-- how many stems
abbrev pub stem_words : ℕ → List (List ℕ)
stem_words n = codes "stems" ∷ decimal n ∷ []

-- the number of a refusal
abbrev pub refused_words : ℕ → List (List ℕ)
refused_words n = codes "refused" ∷ decimal n ∷ []

-- the head, the segments of the Horizontal axis, those of the Vertical, and the stems of both
abbrev pub card : ℕ → ℕ → Option Orientation → List Segment → List Segment → List ℕ
card points contours orientation hs vs =
    line_of (head_words points contours orientation)
    ++ segment_lines Horizontal 0 hs
    ++ segment_lines Vertical 0 vs
    ++ line_of (stem_words (stem_count hs + stem_count vs))

-- the same of a card's parts
abbrev pub card_text : Card → List ℕ
card_text c = card c.points c.contours c.orientation c.horizontal.now c.vertical.now
