-- A reading: the segments of contour after contour.
use Rattle.std.specs.Prelude.{◌≡◌, ℕ, ◌+◌, ◌-◌, ◌≤◌, Bool, true, false, ◌||◌, List, [], ◌∷◌, ◌++◌, map, length, take, drop, replicate, Ok, Err, Result, nat_lt}
use Rattle.outline.specs.declared.contours.Contour.{Contour}
use Rattle.outline.specs.declared.points.Point.{Point}
use Rattle.segments.specs.declared.faults.BuildFault.{BuildFault}
use Rattle.segments.specs.declared.faults.BuildFault.TheVariants.{TooManySegments}
use Rattle.segments.specs.declared.measures.Dimension.{Dimension}
use Rattle.segments.specs.declared.tables.Segment.{Segment}
use Rattle.segments.specs.Segments.{blank}
use Rattle.segments.specs.Stretches.{segments_of, most_of, shifted}

-- contours that lie inside n points
abbrev pub Inside : ℕ → List Contour → Type 0
Inside n [] = Unit {0}
Inside n (c ∷ cs) = (c.first ≤ c.end) × (c.end ≤ n) × Inside n cs

-- the points of a contour
abbrev pub points_of : List Point → Contour → List Point
points_of ps c = take (c.end - c.first) (drop c.first ps)

-- a contour's segments as they stand in the table: those counted from its start, moved to its place
unfoldable pub entries_of : Dimension → ℕ → List Point → Contour → List Segment
entries_of dim units ps c = map (shifted c.first) (segments_of dim units (points_of ps c))

-- the most segments that a contour holds at once
unfoldable pub room_of : Dimension → List Point → Contour → ℕ
room_of dim ps c = most_of dim (points_of ps c)

-- all segments, contour after contour
abbrev pub all_entries : Dimension → ℕ → List Point → List Contour → List Segment
all_entries dim units ps [] = []
all_entries dim units ps (c ∷ cs) = entries_of dim units ps c ++ all_entries dim units ps cs

-- whether a segment opens while more than 1,000 are held, with h held before
abbrev pub overflows : Dimension → ℕ → List Point → ℕ → List Contour → Bool
overflows dim units ps h [] = false
overflows dim units ps h (c ∷ cs) =
    nat_lt 1001 (h + room_of dim ps c) || overflows dim units ps (h + length (entries_of dim units ps c)) cs

-- n blank entries
abbrev pub blanks : ℕ → List Segment
blanks n = replicate n blank

-- the segments stand at the front of the table, and the entries after them are as before
pub record Fills (dim : Dimension) (units : ℕ) (ps : List Point) (cs : List Contour) (t t' : List Segment) (n : ℕ) : Type 0 where
  pub fits : overflows dim units ps 0 cs ≡ false
  pub few : n ≤ 1001
  pub count : n ≡ length (all_entries dim units ps cs)
  pub table : t' ≡ all_entries dim units ps cs ++ drop (length (all_entries dim units ps cs)) t

-- unless one opens while more than 1,000 are held
abbrev pub Filled : Dimension → ℕ → List Point → List Contour → List Segment → List Segment → Result ℕ BuildFault → Type 0
Filled dim units ps cs t t' (Ok n) = Fills dim units ps cs t t' n
Filled dim units ps cs t t' (Err e) = overflows dim units ps 0 cs ≡ true

-- a reading that is granted leaves the segments, and blank entries after them
pub record Granted (dim : Dimension) (units : ℕ) (ps : List Point) (cs : List Contour) (t t' : List Segment) (n : ℕ) : Type 0 where
  pub fits : overflows dim units ps 0 cs ≡ false
  pub few : n ≤ 1001
  pub count : n ≡ length (all_entries dim units ps cs)
  pub table : t' ≡ all_entries dim units ps cs ++ blanks (length t - n)

-- one that is refused leaves blank entries alone
pub record Refused (dim : Dimension) (units : ℕ) (ps : List Point) (cs : List Contour) (t t' : List Segment) : Type 0 where
  pub over : overflows dim units ps 0 cs ≡ true
  pub table : t' ≡ blanks (length t)

-- what a reading answers and leaves
abbrev pub Read : Dimension → ℕ → List Point → List Contour → List Segment → List Segment → Result ℕ BuildFault → Type 0
Read dim units ps cs t t' (Ok n) = Granted dim units ps cs t t' n
Read dim units ps cs t t' (Err TooManySegments) = Refused dim units ps cs t t'
