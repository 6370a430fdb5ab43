-- The book: a plain list of contours, fed with the arguments of calls. It knows no sheet and is told no answer.
use Rattle.std.specs.Prelude.{◌≡◌, ℕ, ◌+◌, ◌-◌, Bool, false, cond, List, [], ◌∷◌, ◌++◌, map, length, get_or, take, drop, ℤ, Ok, Err, Result, nat_lt, slice_index_or, slice_set}
use Rattle.outline.specs.declared.contours.Contour.{Contour}
use Rattle.outline.specs.declared.points.DrawnPoint.{DrawnPoint}
use Rattle.outline.specs.Corners.{SameMeaning}
use Rattle.unscaled.specs.declared.points.UnscaledPoint.{UnscaledPoint}
use Rattle.unscaled.specs.Entries.{Entry}
use Rattle.walk.specs.Steps.{origin}
use Rattle.analysis.specs.Outlines.{Contours, point_count}
use Rattle.segments.specs.declared.faults.BuildFault.TheVariants.{TooManySegments}
use Rattle.segments.specs.declared.measures.Dimension.{Dimension}
use Rattle.segments.specs.declared.tables.Segment.{Segment}
use Rattle.segments.specs.Readings.{blanks}
use Rattle.drawing.specs.declared.faults.EditFault.{EditFault}
use Rattle.drawing.specs.declared.faults.EditFault.TheVariants.{NoContour, NoPoint, SecondContour, TooManyContours}
use Rattle.drawing.specs.Placing.{follow, admitted, placed}
use Rattle.reading.specs.declared.faults.ReadFault.{ReadFault}
use Rattle.reading.specs.declared.faults.ReadFault.TheVariants.{TableTooShort, Build}
use Rattle.reading.specs.Drawn.{drawn_segments, crowded}
use Rattle.reading.specs.Readings.{read_table}

-- an edit, by its arguments; a source is given as its list
pub data Edit : Type 0 where
  placing : List Entry → Edit
  replacing : ℕ → List Entry → Edit
  dropping : ℕ → Edit
  moving : ℕ → ℕ → ℤ → ℤ → Edit
  clearing : Edit

-- a call: an edit, or a reading of an axis into a table of so many entries
pub data Call : Type 0 where
  edit : Edit → Call
  reading : Dimension → ℕ → Call

-- the contours but for contour k
abbrev pub others : ℕ → Contours → Contours
others k cs = take k cs ++ drop (k + 1) cs

-- point j of a contour at x and y; its kind stays
abbrev pub moved_to : List DrawnPoint → ℕ → ℤ → ℤ → UnscaledPoint
moved_to c j x y = record { x = x; y = y; kind = (get_or c j origin).kind; is_contour_start = false }

-- The book after an edit, or the refusal of the first check that fails: the contour is there (10), the point is there (11);
-- a source has points (12), at most 2,048 with those that stay (13), and each point in order is no fault, within range (14), and
-- opens no contour too many (15: the sheet's 129th, or a second one where a contour is replaced).
abbrev pub outcome : Contours → Edit → Result Contours EditFault
outcome cs (placing es) = follow (placed (point_count cs) (128 - length cs) TooManyContours es) (λ ds. Ok (cs ++ ds))
outcome cs (replacing k es) =
    cond (nat_lt k (length cs))
    (follow (placed (point_count (others k cs)) 1 SecondContour es) (λ ds. Ok ((take k cs ++ ds) ++ drop (k + 1) cs)))
    (Err NoContour)
outcome cs (dropping k) = cond (nat_lt k (length cs)) (Ok (others k cs)) (Err NoContour)
outcome cs (moving k j x y) =
    cond (nat_lt k (length cs))
    (cond (nat_lt j (length (slice_index_or cs k [])))
    (follow (admitted (moved_to (slice_index_or cs k []) j x y)) (λ q. Ok (slice_set cs k (slice_set (slice_index_or cs k []) j q))))
    (Err NoPoint))
    (Err NoContour)
outcome cs clearing = Ok []

-- what an edit answers: nothing, or its refusal
abbrev pub told : Result Contours EditFault → Result (Unit {0}) EditFault
told (Ok cs) = Ok tt
told (Err f) = Err f

-- the contours that an edit leaves: where it is refused, those that were there
abbrev pub left : Contours → Result Contours EditFault → Contours
left cs (Ok ds) = ds
left cs (Err f) = cs

-- What the rules ask besides the contours: the units, the stem width and the answers of the corner rule
pub record Terms : Type 0 where
  pub units : ℕ
  pub width : ℕ
  pub flat : ℤ → ℤ → ℤ → ℤ → Bool

-- equal settings, and corner rules of one meaning
pub record Agree (v w : Terms) : Type 0 where
  pub units : v.units ≡ w.units
  pub width : v.width ≡ w.width
  pub meaning : SameMeaning v.flat w.flat

-- an answer: an edit's; a reading's count or refusal, with its table
pub data Answer : Type 0 where
  edited : Result (Unit {0}) EditFault → Answer
  read : Result ℕ ReadFault → List Segment → Answer

-- what a reading shows: a table that was too short is left alone, and is no part of the answer
abbrev pub shown : Result ℕ ReadFault → List Segment → Answer
shown (Ok n) t = read (Ok n) t
shown (Err (Build f)) t = read (Err (Build f)) t
shown (Err TableTooShort) t = read (Err TableTooShort) []

-- what a reading of the contours shows by the rules, in a table of so many entries
abbrev pub reading_of : Terms → Contours → Dimension → ℕ → Answer
reading_of w cs dim size =
    cond (nat_lt size 1001) (read (Err TableTooShort) [])
    (cond (crowded w.flat dim w.units 0 cs) (read (Err (Build TooManySegments)) (blanks size))
    (read (Ok (length (drawn_segments w.flat dim w.units 0 cs))) (read_table w.flat w.units w.width dim cs size)))

-- what the book answers to a call
abbrev pub answer : Terms → Contours → Call → Answer
answer w cs (edit e) = edited (told (outcome cs e))
answer w cs (reading dim size) = reading_of w cs dim size

-- the book after a call; a reading changes nothing
abbrev pub next : Contours → Call → Contours
next cs (edit e) = left cs (outcome cs e)
next cs (reading dim size) = cs

-- the answers to a list of calls, each on what the ones before left
abbrev pub answers : Terms → Contours → List Call → List Answer
answers w cs [] = []
answers w cs (q ∷ qs) = answer w cs q ∷ answers w (next cs q) qs

-- the book after a list of calls
abbrev pub book_after : Contours → List Call → Contours
book_after cs [] = cs
book_after cs (q ∷ qs) = book_after (next cs q) qs

-- a table of points that draws a contour: no point but the first may be marked as a start
abbrev pub unscaled : Bool → DrawnPoint → Entry
unscaled start p = Ok (record { x = p.x; y = p.y; kind = p.kind; is_contour_start = start })

abbrev pub tabled : Bool → List DrawnPoint → List Entry
tabled start [] = []
tabled start (p ∷ ps) = unscaled start p ∷ map (unscaled false) ps

-- the calls place the contours in order, one call each, from a table
abbrev pub Redraws : List Call → Contours → Type 0
Redraws [] [] = Unit {0}
Redraws [] (c ∷ cs) = ⊥
Redraws (q ∷ qs) [] = ⊥
Redraws (q ∷ qs) (c ∷ cs) = ((start : Bool) × (q ≡ edit (placing (tabled start c)))) × Redraws qs cs

-- where contours lie that stand one after another from the index b on
abbrev pub spans : ℕ → Contours → List Contour
spans b [] = []
spans b (c ∷ cs) = record { first = b; end = b + length c } ∷ spans (b + length c) cs
