-- What a reading answers and leaves in a table that is long enough, by the stored records.
use Rattle.std.specs.Prelude.{◌≡◌, ℕ, List, Ok, Err, Option, Result}
use Rattle.outline.specs.declared.contours.Contour.{Contour}
use Rattle.outline.specs.declared.orientations.Orientation.{Orientation}
use Rattle.outline.specs.declared.points.Point.{Point}
use Rattle.outline.specs.declared.units.Settings.{Settings}
use Rattle.segments.specs.declared.measures.Dimension.{Dimension}
use Rattle.segments.specs.declared.tables.Segment.{Segment}
use Rattle.segments.specs.Majors.{major}
use Rattle.segments.specs.Readings.{Read}
use Rattle.linking.specs.Links.{linked_table}
use Rattle.linking.specs.Rules.{rule_by}
use Rattle.reading.specs.declared.faults.ReadFault.{ReadFault}
use Rattle.reading.specs.declared.faults.ReadFault.TheVariants.{TableTooShort, Build}

-- the records' segments, or 17
abbrev pub Built : Dimension → ℕ → List Point → List Contour → List Segment → List Segment → Result ℕ ReadFault → Type 0
Built dim units ps cs t t' (Ok n) = Read dim units ps cs t t' (Ok n)
Built dim units ps cs t t' (Err (Build f)) = Read dim units ps cs t t' (Err f)
Built dim units ps cs t t' (Err TableTooShort) = ⊥

-- the same, with the segments linked at the settings and the axis's major direction
abbrev pub Linked : Dimension → Settings → Option Orientation → List Point → List Contour → List Segment → List Segment → Result ℕ ReadFault → Type 0
Linked dim s o ps cs t t' (Ok n) =
    (built : List Segment) × Built dim s.units ps cs t built (Ok n) × (t' ≡ linked_table (rule_by s (major dim o)) n built)
Linked dim s o ps cs t t' (Err f) = Built dim s.units ps cs t t' (Err f)
