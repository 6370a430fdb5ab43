-- What is printed of a record: from its bytes, by the rules of every layer, to the text.
use Rattle.std.specs.Prelude.{ℕ, List, [], length, take, drop, Ok, Err, Result}
use Rattle.unscaled.specs.Corners.{flat_of}
use Rattle.unscaled.specs.declared.headers.RecordFault.{RecordFault}
use Rattle.unscaled.specs.Entries.{Entry}
use Rattle.unscaled.specs.Records.{Values, header, entries}
use Rattle.analysis.specs.Areas.{orientation_of, total_area}
use Rattle.analysis.specs.Outlines.{Contours, point_count}
use Rattle.segments.specs.declared.measures.Dimension.{Dimension}
use Rattle.segments.specs.declared.measures.Dimension.TheVariants.{Horizontal, Vertical}
use Rattle.segments.specs.declared.tables.Segment.{Segment}
use Rattle.drawing.specs.declared.faults.EditFault.{EditFault}
use Rattle.reading.specs.declared.faults.ReadFault.{ReadFault}
use Rattle.reading.specs.Readings.{answer, read_table}
use Rattle.sheet.specs.Book.{Terms, placing, outcome}
use Rattle.card.specs.Cards.{card, refused_words}
use Rattle.card.specs.Lines.{line_of}
use Rattle.record_card.specs.declared.refusals.Refusal.{Refusal}
use Rattle.record_card.specs.declared.refusals.Refusal.TheVariants.{Record, Edit, Read}
use Rattle.record_card.specs.Refusals.{number}

-- an answer, read by f where it is no refusal
abbrev pub read_by : {X Y : Type 0} → (X → Y) → Result X Refusal → Result Y Refusal
read_by f (Ok x) = Ok (f x)
read_by f (Err e) = Err e

-- what follows, unless there is a refusal
abbrev pub follow : {X Y : Type 0} → Result X Refusal → (X → Result Y Refusal) → Result Y Refusal
follow (Ok x) k = k x
follow (Err f) k = Err f

abbrev pub of_record : Result Values RecordFault → Result Values Refusal
of_record (Ok v) = Ok v
of_record (Err f) = Err (Record f)

abbrev pub of_edit : Result Contours EditFault → Result Contours Refusal
of_edit (Ok cs) = Ok cs
of_edit (Err f) = Err (Edit f)

-- the first entries of a table, as many as a reading answers
abbrev pub of_read : Result ℕ ReadFault → List Segment → Result (List Segment) Refusal
of_read (Ok n) t = Ok (take n t)
of_read (Err f) t = Err (Read f)

-- an axis's segments, as a reading into a table of 1,001 entries leaves them
abbrev pub axis : Terms → Dimension → Contours → Result (List Segment) Refusal
axis w dim cs = of_read (answer w.flat w.units dim cs 1001) (read_table w.flat w.units w.width dim cs 1001)

-- the card of contours: both axes are read first
abbrev pub contours_card : Terms → Contours → Result (List ℕ) Refusal
contours_card w cs =
    follow (axis w Horizontal cs) (λ hs.
    follow (axis w Vertical cs) (λ vs.
    Ok (card (point_count cs) (length cs) (orientation_of (total_area cs)) hs vs)))

-- the card of a source's points, placed on an empty sheet
abbrev pub points_card : Terms → List Entry → Result (List ℕ) Refusal
points_card w es = follow (of_edit (outcome [] (placing es))) (contours_card w)

-- the units, the width and the corner rule that a header asks for
abbrev pub terms_of : Values → Terms
terms_of v = record { units = v.units; width = v.width; flat = flat_of v.corner }

-- the card of a record: its header, then its points
abbrev pub record_card : List ℕ → Result (List ℕ) Refusal
record_card bs = follow (of_record (header bs)) (λ v. points_card (terms_of v) (entries (drop 8 bs)))

-- the card, or `refused` and the number of the first check that fails
abbrev pub text : Result (List ℕ) Refusal → List ℕ
text (Ok t) = t
text (Err f) = line_of (refused_words (number f))

abbrev pub printed : List ℕ → List ℕ
printed bs = text (record_card bs)
