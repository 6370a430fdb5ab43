-- The laws of sheets over runs of calls. Nothing here asks how a sheet came to its contours.
use Rattle.std.specs.Prelude.{◌≡◌, ℕ, zero, suc, Bool, List, [], length, ℤ, Ok, Option, Result}
use Rattle.outline.specs.declared.orientations.Orientation.{Orientation}
use Rattle.outline.specs.Units.{near_limit}
use Rattle.analysis.specs.Areas.{orientation_of, total_area}
use Rattle.analysis.specs.Outlines.{Contours, outline_records}
use Rattle.segments.specs.declared.measures.Dimension.{Dimension}
use Rattle.segments.specs.declared.tables.Segment.{Segment}
use Rattle.reading.specs.declared.faults.ReadFault.{ReadFault}
use Rattle.reading.specs.Laws.{Mutual}
use Rattle.reading.specs.Readings.{axis_rule}
use Rattle.sheet.specs.declared.sheets.Sheet.{Sheet}
use Rattle.sheet.specs.Book.{Call, Answer, shown, Agree, reading_of, answers, book_after, Redraws, spans}
use Rattle.sheet.specs.Sheets.{contours_of, records_of, spans_of, Oriented, terms, Readings, Run, Fresh}

-- over what the corner rules of a type mean
module _ {R : Type 0} (flat : R → ℤ → ℤ → ℤ → ℤ → Bool) where
  -- All that a sheet shows is what the rules give the contours cs: where they lie, the point records, the orientation, and each
  -- reading's answer with its table, unless the table was too short.
  pub record Shows (s : Sheet R) (cs : Contours) : Type 0 where
    pub contours : contours_of s ≡ cs
    pub places : spans_of s ≡ spans 0 cs
    pub points : records_of s ≡ outline_records (flat s.rule) (near_limit s.settings.units) 0 cs
    pub orientation : (o : Option Orientation) → Oriented s o → o ≡ orientation_of (total_area cs)
    pub readings : (dim : Dimension) (t t' : List Segment) (r : Result ℕ ReadFault) → Readings flat s dim t r t'
        → shown r t' ≡ reading_of (terms flat s) cs dim (length t)

  -- Linked exactly when mutual: however a sheet that was fresh has been worked, in every reading of it that is granted two segments
  -- are linked exactly when each is the other's first lowest-scoring partner below 32,000.
  abbrev pub LinksMutual : Sheet R → Type 0
  LinksMutual fresh =
      (qs : List Call) (as' : List Answer) (worked : Sheet R) → Run flat fresh qs as' worked
      → (dim : Dimension) (t t' : List Segment) (n : ℕ) → Readings flat worked dim t (Ok n) t'
      → Mutual (axis_rule fresh.settings.units fresh.settings.width dim (book_after [] qs)) n t'

-- over what the corner rules of two types mean
module _ {R Q : Type 0} (flat : R → ℤ → ℤ → ℤ → ℤ → Bool) (flat' : Q → ℤ → ℤ → ℤ → ℤ → Bool) where
  -- Two sheets share all that they show: where the contours lie, the point records, the orientation, and each reading's answer
  -- with its table, unless the table was too short, read into tables of one length.
  pub record Shares (s : Sheet R) (t : Sheet Q) : Type 0 where
    pub places : spans_of s ≡ spans_of t
    pub points : records_of s ≡ records_of t
    pub orientation : (o o' : Option Orientation) → Oriented s o → Oriented t o' → o ≡ o'
    pub readings : (dim : Dimension) (a a' b b' : List Segment) (r q : Result ℕ ReadFault) → length a ≡ length b
        → Readings flat s dim a r a' → Readings flat' t dim b q b' → shown r a' ≡ shown q b'

  -- Two sheets that hold the contours cs stay together over n further lists of calls: they share all that they show; and whatever
  -- list of calls both get next, both answer as the book does, and so alike, show what the rules give the book's contours, and stay
  -- together again.
  abbrev pub Together : ℕ → Contours → Sheet R → Sheet Q → Type 0
  Together zero cs s t = Shares s t
  Together (suc n) cs s t =
      Shares s t
      × ((qs : List Call) (as' bs : List Answer) (s' : Sheet R) (t' : Sheet Q) → Run flat s qs as' s' → Run flat' t qs bs t'
      → (as' ≡ answers (terms flat s) cs qs)
      × (as' ≡ bs)
      × Shows flat s' (book_after cs qs)
      × Shows flat' t' (book_after cs qs)
      × Together n (book_after cs qs) s' t')

  -- History does not matter. A sheet was fresh and has had any list of calls. Then
  pub record Kept (fresh : Sheet R) (qs : List Call) (as' : List Answer) (worked : Sheet R) : Type 0 where
    -- (1) each call answered as the book does;
    pub answered : as' ≡ answers (terms flat fresh) [] qs
    -- (2) the sheet holds the book's contours, and all that it shows is what the rules give them;
    pub shows : Shows flat worked (book_after [] qs)
    -- (3) any sheet that was fresh, of equal settings and a rule of one meaning, and had the book's contours placed in order, one call
    -- each, from a table, shares all that it shows with this one; (4) and the two stay together, over any number of further lists of
    -- calls.
    pub clean : (n : ℕ) (fresh' clean : Sheet Q) (ds : List Call) (bs : List Answer) → Fresh flat' fresh' → Agree (terms flat fresh) (terms flat' fresh')
        → Redraws ds (book_after [] qs) → Run flat' fresh' ds bs clean → Together n (book_after [] qs) worked clean

  abbrev pub History : Sheet R → Type 0
  History fresh = (qs : List Call) (as' : List Answer) (worked : Sheet R) → Run flat fresh qs as' worked → Kept fresh qs as' worked
