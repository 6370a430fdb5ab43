-- What a reading answers and leaves, by the contours alone.
use Rattle.std.specs.Prelude.{◌≡◌, ℕ, ◌-◌, Bool, cond, List, ◌++◌, length, ℤ, Ok, Err, Result, nat_lt}
use Rattle.analysis.specs.Areas.{orientation_of, total_area}
use Rattle.analysis.specs.Outlines.{Contours}
use Rattle.segments.specs.declared.faults.BuildFault.TheVariants.{TooManySegments}
use Rattle.segments.specs.declared.measures.Dimension.{Dimension}
use Rattle.segments.specs.declared.tables.Segment.{Segment}
use Rattle.segments.specs.Majors.{major}
use Rattle.segments.specs.Readings.{blanks}
use Rattle.linking.specs.declared.rules.Rule.{Rule}
use Rattle.linking.specs.Links.{linked_table}
use Rattle.linking.specs.Rules.{rule_of}
use Rattle.reading.specs.declared.faults.ReadFault.{ReadFault}
use Rattle.reading.specs.declared.faults.ReadFault.TheVariants.{TableTooShort, Build}
use Rattle.reading.specs.Drawn.{drawn_segments, crowded}

-- the linking rule along an axis: its major direction is by the way round that the contours are drawn
abbrev pub axis_rule : ℕ → ℕ → Dimension → Contours → Rule
axis_rule units width dim cs = rule_of units width (major dim (orientation_of (total_area cs)))

-- over the meaning of a corner rule
module _ (flat : ℤ → ℤ → ℤ → ℤ → Bool) where
  -- the number of the contours' segments, unless the table has under 1,001 entries, or too many segments open
  abbrev pub answer : ℕ → Dimension → Contours → ℕ → Result ℕ ReadFault
  answer units dim cs size =
      cond (nat_lt size 1001) (Err TableTooShort)
      (cond (crowded flat dim units 0 cs) (Err (Build TooManySegments)) (Ok (length (drawn_segments flat dim units 0 cs))))

  -- a table of so many entries: the contours' segments, not linked yet, and blank entries after them
  abbrev pub built_table : ℕ → Dimension → Contours → ℕ → List Segment
  built_table units dim cs size = drawn_segments flat dim units 0 cs ++ blanks (size - length (drawn_segments flat dim units 0 cs))

  -- the same with the segments linked
  abbrev pub read_table : ℕ → ℕ → Dimension → Contours → ℕ → List Segment
  read_table units width dim cs size =
      linked_table (axis_rule units width dim cs) (length (drawn_segments flat dim units 0 cs)) (built_table units dim cs size)

  -- the table after building: left as it was if it is too short, blank if too many segments open, else with the segments
  abbrev pub table_built : ℕ → Dimension → Contours → List Segment → List Segment
  table_built units dim cs t =
      cond (nat_lt (length t) 1001) t (cond (crowded flat dim units 0 cs) (blanks (length t)) (built_table units dim cs (length t)))

  -- what building the contours' segments answers, and what it leaves in the table t
  pub record Builds (units : ℕ) (dim : Dimension) (cs : Contours) (t : List Segment) (r : Result ℕ ReadFault) (t' : List Segment) : Type 0 where
    pub answers : r ≡ answer units dim cs (length t)
    pub leaves : t' ≡ table_built units dim cs t

  -- the table after a reading: left as it was if it is too short, blank if too many segments open, else with the linked segments
  abbrev pub table_after : ℕ → ℕ → Dimension → Contours → List Segment → List Segment
  table_after units width dim cs t =
      cond (nat_lt (length t) 1001) t (cond (crowded flat dim units 0 cs) (blanks (length t)) (read_table units width dim cs (length t)))

  -- what a reading of the contours answers, and what it leaves in the table t
  pub record Reads (units width : ℕ) (dim : Dimension) (cs : Contours) (t : List Segment) (r : Result ℕ ReadFault) (t' : List Segment) : Type 0 where
    pub answers : r ≡ answer units dim cs (length t)
    pub leaves : t' ≡ table_after units width dim cs t
