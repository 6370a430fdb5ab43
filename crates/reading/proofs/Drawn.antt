-- What is answered and left by the stored records is what the contours alone tell.
use Rattle.std.proofs.Common.{◌≡◌, ℕ, ◌-◌, ◌≤◌, Bool, true, false, ltb, List, ◌++◌, length, ℤ, Ok, Err, Result, sym, ap, ◌∙◌}
use Rattle.std.proofs.lemmas.Bool.{le-ltb}
use Rattle.outline.specs.declared.contours.Contour.{Contour}
use Rattle.outline.specs.declared.points.DrawnPoint.{DrawnPoint}
use Rattle.outline.specs.declared.points.Point.{Point}
use Rattle.outline.specs.Units.{near_limit}
use Rattle.analysis.specs.Outlines.{Contours, Tiles, cut_out, outline_records}
use Rattle.segments.specs.declared.faults.BuildFault.{BuildFault}
use Rattle.segments.specs.declared.faults.BuildFault.TheVariants.{TooManySegments}
use Rattle.segments.specs.declared.measures.Dimension.{Dimension}
use Rattle.segments.specs.declared.tables.Segment.{Segment}
use Rattle.segments.specs.Readings.{blanks, Read}
use Rattle.reading.specs.declared.faults.ReadFault.{ReadFault}
use Rattle.reading.specs.declared.faults.ReadFault.TheVariants.{Build}
use Rattle.reading.specs.Drawn.{drawn_segments, crowded}
use Rattle.reading.specs.Readings.{Builds}
use Rattle.reading.proofs.Standing.{entries-alone, crowds_alone}

module _ (flat : ℤ → ℤ → ℤ → ℤ → Bool) (units : ℕ) (dim : Dimension) (cs : Contours) (t : List Segment) (long : ltb (length t) 1001 ≡ false) where
  granted : (n : ℕ) (t' : List Segment) → crowded flat dim units 0 cs ≡ false → n ≡ length (drawn_segments flat dim units 0 cs)
      → t' ≡ drawn_segments flat dim units 0 cs ++ blanks (length t - n) → Builds flat units dim cs t (Ok n) t'
  granted n t' fits count built = record { answers = rw (long, fits) (ap Ok count); leaves = rw (long, fits) cc }

  refused : (t' : List Segment) → crowded flat dim units 0 cs ≡ true → t' ≡ blanks (length t) → Builds flat units dim cs t (Err (Build TooManySegments)) t'
  refused t' over e = record { answers = rw (long, over); leaves = rw (long, over) e }

-- as a reading's answer has it
abbrev pub told : Result ℕ BuildFault → Result ℕ ReadFault
told (Ok n) = Ok n
told (Err f) = Err (Build f)

pub builds-drawn : (flat : ℤ → ℤ → ℤ → ℤ → Bool) (units : ℕ) (dim : Dimension) (ps : List DrawnPoint) (rs : List Point) (cs : List Contour)
    (t t' : List Segment) (r : Result ℕ BuildFault) → 1001 ≤ length t → Read dim units rs cs t t' r
    → Tiles 0 (length ps) cs → rs ≡ outline_records flat (near_limit units) 0 (cut_out cs ps)
    → Builds flat units dim (cut_out cs ps) t (told r) t'
builds-drawn flat units dim ps rs cs t t' (Ok n) long l tiles e =
    let es = entries-alone flat dim units ps cs rs tiles e in
    let full = crowds_alone flat dim units ps cs rs tiles e in
    granted flat units dim (cut_out cs ps) t (le-ltb (length t) 1001 long) n t'
    (sym full ∙ l.fits) (l.count ∙ ap (λ (x : List Segment). length x) es) (l.table ∙ ap (λ (x : List Segment). x ++ blanks (length t - n)) es)
builds-drawn flat units dim ps rs cs t t' (Err TooManySegments) long l tiles e =
    let full = crowds_alone flat dim units ps cs rs tiles e in
    refused flat units dim (cut_out cs ps) t (le-ltb (length t) 1001 long) t' (sym full ∙ l.over) l.table
