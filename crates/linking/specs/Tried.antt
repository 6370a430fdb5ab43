-- Tried values: each row is the settings, the segments (major or opposite; position, least and greatest coordinate) and,
-- for each segment, its score, link and serif afterwards.
use Rattle.std.specs.Prelude.{◌≡◌, ℕ, Bool, true, false, cond, List, [], ◌∷◌, map, length, ℤ, pos, Some, None, Option}
use Rattle.outline.specs.declared.directions.Direction.TheVariants.{Up, Down}
use Rattle.segments.specs.declared.tables.Segment.{Segment}
use Rattle.linking.specs.Links.{linked_table}
use Rattle.linking.specs.Rules.{rule_of}

-- a segment, of the major direction or the opposite one
pub record Stroke : Type 0 where
  pub major : Bool
  pub position : ℤ
  pub low : ℤ
  pub high : ℤ

-- what linking leaves of a segment
pub record Found : Type 0 where
  pub score : ℕ
  pub link : Option ℕ
  pub serif : Option ℕ

pub record Row : Type 0 where
  pub units : ℕ
  pub width : ℕ
  pub strokes : List Stroke
  pub found : List Found

-- at a position, with coordinates from 0 to h
abbrev pub major_at : ℕ → ℕ → Stroke
major_at p h = record { major = true; position = pos p; low = pos 0; high = pos h }

abbrev pub opposite_at : ℕ → ℕ → Stroke
opposite_at p h = record { major = false; position = pos p; low = pos 0; high = pos h }

-- a score, and a link, a serif or neither
abbrev pub links : ℕ → ℕ → Found
links s j = record { score = s; link = Some j; serif = None }

abbrev pub serifs : ℕ → ℕ → Found
serifs s j = record { score = s; link = None; serif = Some j }

abbrev pub alone : Found
alone = record { score = 32000; link = None; serif = None }

-- the entry of a segment, with old values that linking erases
abbrev pub drawn : Stroke → Segment
drawn s = record { dir = cond s.major Up Down; pos = record { 0 = s.position }; delta = pos 0; min_coord = record { 0 = s.low }; max_coord = record { 0 = s.high }; height = 0; round = false; score = 5; link = Some 7; serif = Some 9; first = 0; last = 0 }

-- what is found of an entry
abbrev pub told : Segment → Found
told s = record { score = s.score; link = s.link; serif = s.serif }

-- what linking leaves of a row's segments
abbrev pub run : Row → List Found
run w = map told (linked_table (rule_of w.units w.width Up) (length w.strokes) (map drawn w.strokes))

abbrev pub row : ℕ → ℕ → List Stroke → List Found → Row
row u w s f = record { units = u; width = w; strokes = s; found = f }

abbrev pub rows : List Row
rows =
    -- the nearer one is the stem, the other a serif; so is the later of two at one place
    row 1000 0 (major_at 0 700 ∷ opposite_at 100 700 ∷ opposite_at 140 700 ∷ []) (links 104 1 ∷ links 104 0 ∷ serifs 144 1 ∷ []) ∷
    row 1000 0 (major_at 0 700 ∷ opposite_at 100 700 ∷ opposite_at 100 700 ∷ []) (links 104 1 ∷ links 104 0 ∷ serifs 104 1 ∷ []) ∷
    -- an overlap of 3 makes partners, of 2 it does not
    row 1000 0 (major_at 0 3 ∷ opposite_at 100 3 ∷ []) (links 1076 1 ∷ links 1076 0 ∷ []) ∷
    row 1000 0 (major_at 0 2 ∷ opposite_at 100 2 ∷ []) (alone ∷ alone ∷ []) ∷
    -- a distance of 31,999 links, of 32,000 it does not
    row 16 0 (major_at 0 47 ∷ opposite_at 31999 47 ∷ []) (links 31999 1 ∷ links 31999 0 ∷ []) ∷
    row 16 0 (major_at 0 47 ∷ opposite_at 32000 47 ∷ []) (alone ∷ alone ∷ []) ∷
    -- at the width 100 a distance of 150 costs 87, of 100 nothing
    row 16 100 (major_at 0 47 ∷ opposite_at 150 47 ∷ []) (links 87 1 ∷ links 87 0 ∷ []) ∷
    row 16 100 (major_at 0 47 ∷ opposite_at 100 47 ∷ []) (links 0 1 ∷ links 0 0 ∷ []) ∷
    []

-- each row is found as told
abbrev pub Tried : Type 0
Tried = map run rows ≡ map (λ w. w.found) rows
