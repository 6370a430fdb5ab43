-- Contours stand alone: what a contour is like on a sheet depends on no other contour.
use Rattle.std.specs.Prelude.{◌≡◌, ℕ, ◌+◌, ◌-◌, ◌<◌, Bool, List, [], map, length, ℤ, Ok, slice_index_or}
use Rattle.std.specs.List.{between}
use Rattle.outline.specs.declared.points.Point.{Point}
use Rattle.outline.specs.Corners.{SameMeaning}
use Rattle.analysis.specs.Outlines.{Contours, first_of}
use Rattle.segments.specs.declared.measures.Dimension.{Dimension}
use Rattle.segments.specs.declared.tables.Segment.{Segment}
use Rattle.reading.specs.Own.{own_segments}
use Rattle.sheet.specs.declared.sheets.Sheet.{Sheet}
use Rattle.sheet.specs.Book.{Call, Answer, book_after}
use Rattle.sheet.specs.Sheets.{records_of, Readings, Run, Fresh}

-- a point record, its neighbours counted from the index f
abbrev pub counted_from : ℕ → Point → Point
counted_from f p = record {
  flags = p.flags;
  x = p.x;
  y = p.y;
  in_dir = p.in_dir;
  out_dir = p.out_dir;
  next_ix = p.next_ix - f;
  prev_ix = p.prev_ix - f;
}

-- where contour k of cs ends: after its last point
abbrev pub end_of : Contours → ℕ → ℕ
end_of cs k = first_of cs k + length (slice_index_or cs k [])

-- the records of contour k of cs among all records, counted from its start
abbrev pub own_records : Contours → ℕ → List Point → List Point
own_records cs k ps = map (counted_from (first_of cs k)) (between (first_of cs k) (end_of cs k) ps)

-- over what the corner rules of two types mean
module _ {R Q : Type 0} (flat : R → ℤ → ℤ → ℤ → ℤ → Bool) (flat' : Q → ℤ → ℤ → ℤ → ℤ → Bool) where
  -- Contour k of the sheet s, whose book is cs, and contour l of the sheet t, whose book is ds, have the same point records and, in
  -- readings of one axis that are granted, the same unlinked segments in order, all indices counted from the contour's start.
  pub record SameAlone (cs ds : Contours) (k l : ℕ) (s : Sheet R) (t : Sheet Q) : Type 0 where
    pub points : own_records cs k (records_of s) ≡ own_records ds l (records_of t)
    pub segments : (dim : Dimension) (a a' b b' : List Segment) (n m : ℕ) → Readings flat s dim a (Ok n) a' → Readings flat' t dim b (Ok m) b'
        → own_segments (first_of cs k) (end_of cs k) n a' ≡ own_segments (first_of ds l) (end_of ds l) m b'

  -- Contours stand alone: two sheets of equal units and rules of one meaning were fresh and have had any calls; their stem widths
  -- may differ. Where their books hold one contour, it is the same on both.
  abbrev pub ContoursAlone : Sheet R → Type 0
  ContoursAlone fresh =
      (fresh' : Sheet Q) → Fresh flat' fresh' → fresh.settings.units ≡ fresh'.settings.units → SameMeaning (flat fresh.rule) (flat' fresh'.rule)
      → (qs rs : List Call) (as' bs : List Answer) (s : Sheet R) (t : Sheet Q) → Run flat fresh qs as' s → Run flat' fresh' rs bs t
      → (k l : ℕ) → k < length (book_after [] qs) → l < length (book_after [] rs) → slice_index_or (book_after [] qs) k [] ≡ slice_index_or (book_after [] rs) l []
      → SameAlone (book_after [] qs) (book_after [] rs) k l s t
