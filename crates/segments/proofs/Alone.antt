-- Contours stand alone.
use Rattle.std.proofs.Common.{◌≡◌, ℕ, ◌-◌, false, cond, ◌&&◌, ◌||◌, List, [], ◌∷◌, ◌++◌, map, length, take, drop, ℤ, pos, negsuc, ◌+ℤ◌, ◌-ℤ◌, nat_abs, Some, None, sym, refl, ap, ◌∙◌, subst, append_assoc, arith}
use lib.Signed.{shr_z}
use Rattle.std.specs.List.{AllZip}
use Rattle.std.proofs.lemmas.List.{take_at, drop_at, length-map}
use Rattle.std.proofs.lemmas.Int.{ints}
use Rattle.outline.specs.declared.contours.Contour.{Contour}
use Rattle.outline.specs.declared.points.Point.{Point}
use Rattle.outline.specs.declared.points.PointKind.{PointKind}
use Rattle.outline.specs.declared.points.PointKind.TheVariants.{Control, OnCurve}
use Rattle.segments.specs.declared.measures.AxisPoint.{AxisPoint}
use Rattle.segments.specs.declared.measures.Dimension.{Dimension}
use Rattle.segments.specs.declared.measures.Dimension.TheVariants.{Horizontal, Vertical}
use Rattle.segments.specs.declared.measures.Position.{Position}
use Rattle.segments.specs.declared.states.Reach.{Reach}
use Rattle.segments.specs.declared.tables.Segment.{Segment}
use Rattle.segments.specs.Laws.{Alike, AlikeReadSame, Holds, ContoursAlone, lone_segment, LoneTold}
use Rattle.segments.specs.Measures.{across, along, seen}
use Rattle.segments.specs.States.{control, short}
use Rattle.segments.specs.Readings.{points_of, entries_of, all_entries, blanks, Granted}
use Rattle.segments.specs.Segments.{segment_of}
use Rattle.segments.specs.Stretches.{lone, plain, summary, course_of, stretches_of, segments_of, most_of, shifted}

seen_alike : (dim : Dimension) (p q : Point) → Alike p q → seen dim p ≡ seen dim q
seen_alike Horizontal p q a = let x = a.x in let y = a.y in let k = a.kind in let l = a.leaves in cc
seen_alike Vertical p q a = let x = a.x in let y = a.y in let k = a.kind in let l = a.leaves in cc

all_seen : (dim : Dimension) (ps qs : List Point) → AllZip Alike ps qs → map (seen dim) ps ≡ map (seen dim) qs
all_seen dim [] [] a = refl
all_seen dim [] (q ∷ qs) a = absurd a
all_seen dim (p ∷ ps) [] a = absurd a
all_seen dim (p ∷ ps) (q ∷ qs) a =
    ap (λ (x : AxisPoint). x ∷ map (seen dim) ps) (seen_alike dim p q a.0) ∙ ap (λ (r : List AxisPoint). seen dim q ∷ r) (all_seen dim ps qs a.1)

pub alike_read_same : AlikeReadSame
unfolding segments_of most_of
alike_read_same dim units ps qs a = (
  ap (λ (r : List AxisPoint). map (λ s. segment_of units (summary 0 s)) (stretches_of (course_of dim r))) (all_seen dim ps qs a),
  ap (λ (r : List AxisPoint). (course_of dim r).room) (all_seen dim ps qs a),
)

module _ (dim : Dimension) (units : ℕ) (ps : List Point) where
  pub all_entries-append : (cs ds : List Contour) → all_entries dim units ps (cs ++ ds) ≡ all_entries dim units ps cs ++ all_entries dim units ps ds
  all_entries-append [] ds = refl
  all_entries-append (c ∷ cs) ds =
      ap (λ (r : List Segment). entries_of dim units ps c ++ r) (all_entries-append cs ds)
      ∙ sym (append_assoc (entries_of dim units ps c) (all_entries dim units ps cs) (all_entries dim units ps ds))

  -- where the table holds a contour's segments
  holds : (cs cs' : List Contour) (c : Contour) (t t' : List Segment) (n : ℕ) → Granted dim units ps (cs ++ c ∷ cs') t t' n →
      Holds t' (length (all_entries dim units ps cs)) c (segments_of dim units (points_of ps c))
  unfolding entries_of
  holds cs cs' c t t' n g =
      let A : List Segment = all_entries dim units ps cs in
      let E : List Segment = entries_of dim units ps c in
      let B : List Segment = all_entries dim units ps cs' in
      let Z : List Segment = blanks (length t - n) in
      let k : ℕ = length (segments_of dim units (points_of ps c)) in
      let table : t' ≡ A ++ (E ++ (B ++ Z))
      = g.table ∙ ap (λ (r : List Segment). r ++ Z) (all_entries-append cs (c ∷ cs')) ∙ append_assoc A (E ++ B) Z
      ∙ ap (λ (r : List Segment). A ++ r) (append_assoc E B Z) in
      ap (λ (r : List Segment). take k (drop (length A) r)) table
      ∙ ap (take k) (drop_at A (E ++ (B ++ Z)) (length A) refl)
      ∙ take_at E (B ++ Z) k (length-map (segments_of dim units (points_of ps c)) (shifted c.first))

pub contours-alone : ContoursAlone
contours-alone dim units ps qs cs cs' ds ds' c d t t' u u' n m g h a =
    let same : segments_of dim units (points_of qs d) ≡ segments_of dim units (points_of ps c)
    = sym (alike_read_same dim units (points_of ps c) (points_of qs d) a).0 in (
      segments_of dim units (points_of ps c),
      holds dim units ps cs cs' c t t' n g,
      subst (Holds u' (length (all_entries dim units qs ds)) d) same (holds dim units qs ds ds' d u u' m h),
    )

-- a contour of one point
half_twice : (z : ℤ) → shr_z (z +ℤ z) 2 ≡ z
half_twice (pos k) = omega (arith, ints)
half_twice (negsuc k) = omega (arith, ints)

half_none : (z : ℤ) → shr_z (z -ℤ z) 2 ≡ pos 0
half_none z = let e : z -ℤ z ≡ pos 0 = omega (arith, ints) in ap (λ (y : ℤ). shr_z y 2) e

gap-none : (z : ℤ) → nat_abs (z -ℤ z) ≡ 0
gap-none z = let e : z -ℤ z ≡ pos 0 = omega (arith, ints) in ap nat_abs e

lone-round : (units : ℕ) (k : PointKind) (r : Reach) → ((control k || control k) && short units (cond (control k) None (Some r))) ≡ control k
lone-round units Control r = refl
lone-round units OnCurve r = refl

lone_is : (dim : Dimension) (units : ℕ) (p : Point) →
    segment_of units (summary 0 (plain (lone (record { at = 0; point = seen dim p; ends = false })))) ≡ lone_segment dim p
lone_is dim units p =
    let at : ◌≡◌ {A = Position} (record { 0 = shr_z ((across dim p).0 +ℤ (across dim p).0) 2 }) (across dim p)
    = ap (λ (z : ℤ). record { 0 = z }) (half_twice (across dim p).0) in
    let delta = half_none (across dim p).0 in
    let height = gap-none (along dim p).0 in
    let round = lone-round units p.flags.kind (record { low = along dim p; high = along dim p }) in
    cc

pub lone-told : LoneTold
unfolding segments_of
lone-told dim units p = ap (λ (s : Segment). s ∷ []) (lone_is dim units p)
