-- What a sheet builds and reads, from what building and reading its records and contours ensure.
use Rattle.std.proofs.Common.{◌≡◌, ℕ, ◌<◌, ◌≤◌, Bool, List, length, ℤ, IfOk, Err, vec_items, Option, Result, ◌∙◌}
use Rattle.outline.specs.declared.contours.Contour.{Contour}
use Rattle.outline.specs.declared.orientations.Orientation.{Orientation}
use Rattle.outline.specs.declared.points.DrawnPoint.{DrawnPoint}
use Rattle.outline.specs.declared.points.Point.{Point}
use Rattle.outline.specs.Units.{near_limit}
use Rattle.analysis.specs.Areas.{orientation_of, total_area}
use Rattle.analysis.specs.Outlines.{Tiles, cut_out, outline_records}
use Rattle.segments.specs.declared.measures.Dimension.{Dimension}
use Rattle.segments.specs.declared.tables.Segment.{Segment}
use Rattle.segments.specs.Majors.{major}
use Rattle.linking.specs.Rules.{rule_by}
use Rattle.drawing.proofs.Held.{tiled}
use Rattle.reading.specs.declared.faults.ReadFault.{ReadFault}
use Rattle.reading.specs.declared.faults.ReadFault.TheVariants.{TableTooShort}
use Rattle.reading.specs.Laws.{Mutual}
use Rattle.reading.specs.Readings.{Builds, Reads}
use Rattle.reading.specs.Stored.{Built, Linked}
use Rattle.sheet.specs.declared.sheets.Sheet.{Sheet}
use Rattle.sheet.specs.Sheets.{contours_of, records_of, spans_of, Oriented, Buildings, Readings}

-- over what was lent: the points' records, where the contours lie, and the way round
module _ {R : Type 0} (flat : R → ℤ → ℤ → ℤ → ℤ → Bool) (s : Sheet R) (dim : Dimension) (t t' : List Segment) (r : Result ℕ ReadFault)
    (ps : List Point) (cs : List Contour) (p : ps ≡ records_of s) (q : cs ≡ spans_of s) where
  pub reads_alone : (o : Option Orientation) → Oriented s o
      → ((F : ℤ → ℤ → ℤ → ℤ → Bool) (ds : List DrawnPoint) → Tiles 0 (length ds) cs → ps ≡ outline_records F (near_limit s.settings.units) 0 (cut_out cs ds)
      → o ≡ orientation_of (total_area (cut_out cs ds)) → Reads F s.settings.units s.settings.width dim (cut_out cs ds) t r t')
      → (F : ℤ → ℤ → ℤ → ℤ → Bool) → records_of s ≡ outline_records F (near_limit s.settings.units) 0 (contours_of s)
      → Reads F s.settings.units s.settings.width dim (contours_of s) t r t'
  reads_alone o w drawn F a = rw q at (drawn F (vec_items s.drawing.points) (rw q (tiled s.drawing)) (rw q (p ∙ a)) (rw q w))

  pub sheet_reads : (o : Option Orientation) → Oriented s o
      → ((F : ℤ → ℤ → ℤ → ℤ → Bool) → records_of s ≡ outline_records F (near_limit s.settings.units) 0 (contours_of s)
      → Reads F s.settings.units s.settings.width dim (contours_of s) t r t')
      → (length t < 1001 → (r ≡ Err TableTooShort) × (t' ≡ t))
      → IfOk r (λ n. Mutual (rule_by s.settings (major dim o)) n t')
      → Readings flat s dim t r t'
  sheet_reads o w drawn short stems = record { reads = drawn (flat s.rule); short = short; stems = rw w at stems }

  pub linked_alone : (o : Option Orientation) → Oriented s o → (1001 ≤ length t → Linked dim s.settings o ps cs t t' r)
      → 1001 ≤ length t → Linked dim s.settings (orientation_of (total_area (contours_of s))) (records_of s) (spans_of s) t t' r
  linked_alone o w stored l = rw (w, p, q) at (stored l)

  pub builds_alone :
      ((F : ℤ → ℤ → ℤ → ℤ → Bool) (ds : List DrawnPoint) → Tiles 0 (length ds) cs → ps ≡ outline_records F (near_limit s.settings.units) 0 (cut_out cs ds)
      → Builds F s.settings.units dim (cut_out cs ds) t r t')
      → (F : ℤ → ℤ → ℤ → ℤ → Bool) → records_of s ≡ outline_records F (near_limit s.settings.units) 0 (contours_of s)
      → Builds F s.settings.units dim (contours_of s) t r t'
  builds_alone drawn F a = rw q at (drawn F (vec_items s.drawing.points) (rw q (tiled s.drawing)) (rw q (p ∙ a)))

  pub sheet_builds : (1001 ≤ length t → Built dim s.settings.units ps cs t t' r)
      → ((F : ℤ → ℤ → ℤ → ℤ → Bool) → records_of s ≡ outline_records F (near_limit s.settings.units) 0 (contours_of s)
      → Builds F s.settings.units dim (contours_of s) t r t')
      → (length t < 1001 → (r ≡ Err TableTooShort) × (t' ≡ t))
      → Buildings flat s dim t r t'
  sheet_builds stored drawn short = record { stored = λ l. rw (p, q) at (stored l); builds = drawn (flat s.rule); short = short }
