-- What a sheet holds, what its calls do to it, and runs of calls.
use Rattle.std.specs.Prelude.{◌≡◌, ℕ, ◌<◌, ◌≤◌, Bool, List, [], ◌∷◌, length, ℤ, IfOk, Err, vec_items, Option, Result}
use Rattle.outline.specs.declared.contours.Contour.{Contour}
use Rattle.outline.specs.declared.orientations.Orientation.{Orientation}
use Rattle.outline.specs.declared.points.Point.{Point}
use Rattle.outline.specs.Units.{near_limit}
use Rattle.analysis.specs.Areas.{orientation_of, total_area}
use Rattle.analysis.specs.Outlines.{Contours, outline_records}
use Rattle.segments.specs.declared.measures.Dimension.{Dimension}
use Rattle.segments.specs.declared.tables.Segment.{Segment}
use Rattle.drawing.specs.declared.faults.EditFault.{EditFault}
use Rattle.drawing.specs.Books.{book}
use Rattle.reading.specs.declared.faults.ReadFault.{ReadFault}
use Rattle.reading.specs.declared.faults.ReadFault.TheVariants.{TableTooShort}
use Rattle.reading.specs.Laws.{Mutual}
use Rattle.reading.specs.Readings.{Builds, Reads, axis_rule}
use Rattle.reading.specs.Stored.{Built}
use Rattle.sheet.specs.declared.sheets.Sheet.{Sheet}
use Rattle.sheet.specs.Book.{Edit, Call, edit, reading, Answer, edited, shown, outcome, told, left, Terms}

-- a sheet, over any type of corner rules
module _ {R : Type 0} where
  -- the contours that it holds
  abbrev pub contours_of : Sheet R → Contours
  contours_of s = book s.drawing

  -- its point records
  abbrev pub records_of : Sheet R → List Point
  records_of s = vec_items s.records.points

  -- where its contours lie among the points
  abbrev pub spans_of : Sheet R → List Contour
  spans_of s = vec_items s.drawing.contours

  -- what the question for the orientation ensures of its answer
  abbrev pub Oriented : Sheet R → Option Orientation → Type 0
  Oriented s o = o ≡ orientation_of (total_area (contours_of s))

  -- nothing that the sheet s shows, or goes by, is another in t
  pub record Unchanged (s t : Sheet R) : Type 0 where
    pub drawing : t.drawing ≡ s.drawing
    pub records : t.records ≡ s.records
    pub settings : t.settings ≡ s.settings
    pub rule : t.rule ≡ s.rule

-- over what the corner rules of a type mean
module _ {R : Type 0} (flat : R → ℤ → ℤ → ℤ → ℤ → Bool) where
  -- what the rules ask besides the contours
  abbrev pub terms : Sheet R → Terms
  terms s = record { units = s.settings.units; width = s.settings.width; flat = flat s.rule }

  -- the records are those that the rules give the contours
  abbrev pub Analysed : Sheet R → Type 0
  Analysed s = records_of s ≡ outline_records (flat s.rule) (near_limit s.settings.units) 0 (contours_of s)

  -- what an edit e of the sheet s ensures, that answers r and leaves t
  pub record Edits (s : Sheet R) (e : Edit) (r : Result (Unit {0}) EditFault) (t : Sheet R) : Type 0 where
    pub answers : r ≡ told (outcome (contours_of s) e)
    pub draws : contours_of t ≡ left (contours_of s) (outcome (contours_of s) e)
    pub analyses : Analysed s → Analysed t
    pub settings : t.settings ≡ s.settings
    pub rule : t.rule ≡ s.rule
    -- a refused edit leaves the sheet as it was
    pub refused : (f : EditFault) → r ≡ Err f → Unchanged s t

  -- what building along an axis ensures, that finds the table t, answers r and leaves the table t'
  pub record Buildings (s : Sheet R) (dim : Dimension) (t : List Segment) (r : Result ℕ ReadFault) (t' : List Segment) : Type 0 where
    -- the segments of the records, whatever these are
    pub stored : 1001 ≤ length t → Built dim s.settings.units (records_of s) (spans_of s) t t' r
    -- contour after contour, they are what its points, the units and the corner rule give
    pub builds : Analysed s → Builds (flat s.rule) s.settings.units dim (contours_of s) t r t'
    -- a table that is too short is left as it was
    pub short : length t < 1001 → (r ≡ Err TableTooShort) × (t' ≡ t)

  -- what a reading along an axis ensures, that finds the table t, answers r and leaves the table t'
  pub record Readings (s : Sheet R) (dim : Dimension) (t : List Segment) (r : Result ℕ ReadFault) (t' : List Segment) : Type 0 where
    pub reads : Analysed s → Reads (flat s.rule) s.settings.units s.settings.width dim (contours_of s) t r t'
    -- a table that is too short is left as it was
    pub short : length t < 1001 → (r ≡ Err TableTooShort) × (t' ≡ t)
    -- linked exactly when mutual
    pub stems : IfOk r (λ n. Mutual (axis_rule s.settings.units s.settings.width dim (contours_of s)) n t')

  -- one call on the sheet s that leaves t, with its answer, by what the call ensures
  pub data Did : Sheet R → Call → Answer → Sheet R → Type 0 where
    by_edit : {s t : Sheet R} {e : Edit} {r : Result (Unit {0}) EditFault} → Edits s e r t → Did s (edit e) (edited r) t
    by_reading : {s : Sheet R} {dim : Dimension} {r : Result ℕ ReadFault} (t t' : List Segment) → Readings s dim t r t'
        → Did s (reading dim (length t)) (shown r t') s

  -- a list of calls, granted or refused, each on what the ones before left
  pub data Run : Sheet R → List Call → List Answer → Sheet R → Type 0 where
    none : {s : Sheet R} → Run s [] [] s
    more : {s t u : Sheet R} {q : Call} {a : Answer} {qs : List Call} {as' : List Answer} → Did s q a t → Run t qs as' u → Run s (q ∷ qs) (a ∷ as') u

  -- a sheet as it is made
  pub record Fresh (s : Sheet R) : Type 0 where
    pub empty : contours_of s ≡ []
    pub analysed : Analysed s
