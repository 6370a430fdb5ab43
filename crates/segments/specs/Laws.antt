-- The laws of a reading, in words.
use Rattle.std.specs.Prelude.{◌≡◌, ℕ, ◌<◌, ◌≤◌, List, [], ◌∷◌, ◌++◌, map, length, take, drop, pos, ◌-ℤ◌, ◌≤ℤ◌, None, Ok, Err, Result}
use Rattle.std.specs.List.{AllZip, ContainsAt, AllByRecursion}
use Rattle.outline.specs.declared.contours.Contour.{Contour}
use Rattle.outline.specs.declared.points.Point.{Point}
use Rattle.segments.specs.declared.faults.BuildFault.{BuildFault}
use Rattle.segments.specs.declared.measures.Dimension.{Dimension}
use Rattle.segments.specs.declared.tables.Segment.{Segment}
use Rattle.segments.specs.Measures.{across, along}
use Rattle.segments.specs.Readings.{points_of, all_entries, Granted}
use Rattle.segments.specs.States.{control}
use Rattle.segments.specs.Stretches.{segments_of, most_of, shifted}

-- first and last point of the segment are points of one contour of the list
pub record Lies (cs : List Contour) (s : Segment) : Type 0 where
  pub contour : Contour
  pub listed : ContainsAt cs contour
  pub first_low : contour.first ≤ s.first
  pub first_high : s.first < contour.end
  pub last_low : contour.first ≤ s.last
  pub last_high : s.last < contour.end

-- the height is the greatest coordinate less the least, and nothing is linked yet
pub record Unlinked (s : Segment) : Type 0 where
  pub ordered : s.min_coord.0 ≤ℤ s.max_coord.0
  pub tall : pos s.height ≡ s.max_coord.0 -ℤ s.min_coord.0
  pub score : s.score ≡ 32000
  pub link : s.link ≡ None
  pub serif : s.serif ≡ None

-- each segment of a reading that is granted
abbrev pub Within : List Contour → List Segment → Result ℕ BuildFault → Type 0
Within cs t (Ok n) = AllByRecursion (Lies cs) (take n t) × AllByRecursion Unlinked (take n t)
Within cs t (Err e) = Unit {0}

-- two records that a reading does not tell apart: it asks neither for marks and the direction that leads in, nor for neighbours
pub record Alike (p q : Point) : Type 0 where
  pub x : p.x ≡ q.x
  pub y : p.y ≡ q.y
  pub kind : p.flags.kind ≡ q.flags.kind
  pub leaves : p.out_dir ≡ q.out_dir

-- points that are alike have the same segments, counted from their start, and as many at once
abbrev pub AlikeReadSame : Type 0
AlikeReadSame = (dim : Dimension) (units : ℕ) (ps qs : List Point) → AllZip Alike ps qs →
    (segments_of dim units ps ≡ segments_of dim units qs) × (most_of dim ps ≡ most_of dim qs)

-- from place k on the table holds the segments es, moved to the contour's place
abbrev pub Holds : List Segment → ℕ → Contour → List Segment → Type 0
Holds t k c es = take (length es) (drop k t) ≡ map (shifted c.first) es

-- contours stand alone: wherever two readings along one axis, of equal units, are granted, two contours whose points are alike
-- have the same segments, all indices counted from the contour's start, after those of the contours before them
abbrev pub ContoursAlone : Type 0
ContoursAlone = (dim : Dimension) (units : ℕ) (ps qs : List Point) (cs cs' ds ds' : List Contour) (c d : Contour) (t t' u u' : List Segment) (n m : ℕ) →
    Granted dim units ps (cs ++ c ∷ cs') t t' n → Granted dim units qs (ds ++ d ∷ ds') u u' m →
    AllZip Alike (points_of ps c) (points_of qs d) →
    (es : List Segment) × Holds t' (length (all_entries dim units ps cs)) c es × Holds u' (length (all_entries dim units qs ds)) d es

-- the segment of a contour of one point: the point's direction, which is None; round if it is a control
abbrev pub lone_segment : Dimension → Point → Segment
lone_segment dim p = record {
  dir = p.out_dir;
  pos = across dim p;
  delta = pos 0;
  min_coord = along dim p;
  max_coord = along dim p;
  height = 0;
  round = control p.flags.kind;
  score = 32000;
  link = None;
  serif = None;
  first = 0;
  last = 0;
}

abbrev pub LoneTold : Type 0
LoneTold = (dim : Dimension) (units : ℕ) (p : Point) → segments_of dim units (p ∷ []) ≡ lone_segment dim p ∷ []
