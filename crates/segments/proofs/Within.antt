-- Each segment lies within one contour.
use Rattle.std.proofs.Common.{◌≡◌, ℕ, ◌+◌, ◌-◌, ◌<◌, ◌≤◌, List, [], ◌∷◌, ◌++◌, map, length, take, drop, Ok, Err, Result, sym, refl, ap, ◌∙◌, subst, arith}
use Rattle.std.specs.List.{ContainsAt, AllByRecursion}
use Rattle.std.proofs.ByRecursion.{All-append, All-drop, All-take, All-map, All-weaker, has_append_right}
use Rattle.std.proofs.lemmas.List.{length-map, length-drop, length-take-le, take_at}
use Rattle.outline.specs.declared.contours.Contour.{Contour}
use Rattle.outline.specs.declared.points.Point.{Point}
use Rattle.segments.specs.declared.faults.BuildFault.{BuildFault}
use Rattle.segments.specs.declared.measures.AxisPoint.{AxisPoint}
use Rattle.segments.specs.declared.measures.Dimension.{Dimension}
use Rattle.segments.specs.declared.tables.Segment.{Segment}
use Rattle.segments.specs.Building.{Visit, numbered, ending, once_round, visits_of}
use Rattle.segments.specs.Laws.{Lies, Unlinked, Within}
use Rattle.segments.specs.Measures.{seen}
use Rattle.segments.specs.Readings.{Inside, points_of, entries_of, all_entries, Granted, Read}
use Rattle.segments.specs.Rows.{visits_in, Row, Group, single, then, rows_in, whole, Merged, AllMerged, all_rows, Falls}
use Rattle.segments.specs.Segments.{segment_of}
use Rattle.segments.specs.Starts.{start_of}
use Rattle.segments.specs.Stretches.{Taken, lone, more, first_of, last_of, Stretch, summary, course_of, stretches_of, segments_of, shifted}
use Rattle.segments.proofs.Bridge.{last-both}
use Rattle.segments.proofs.Extents.{segments-told, ordered-told}
use Rattle.segments.proofs.Walked.{contours_fall}

all_left : {X : Type 0} (P : X → Type 0) (xs ys : List X) → AllByRecursion P (xs ++ ys) → AllByRecursion P xs
all_left P [] ys h = tt
all_left P (x ∷ xs) ys h = (h.0, all_left P xs ys h.1)

all_right : {X : Type 0} (P : X → Type 0) (xs ys : List X) → AllByRecursion P (xs ++ ys) → AllByRecursion P ys
all_right P [] ys h = h
all_right P (x ∷ xs) ys h = all_right P xs ys h.1

module _ (n : ℕ) where
  abbrev In : Visit → Type 0
  In v = v.at < n

  record InS (s : Stretch) : Type 0 where
    first : (first_of s.own).at < n
    last : (last_of s.all).at < n

  numbered_in : (i : ℕ) (ps : List AxisPoint) → i + length ps ≤ n → AllByRecursion In (numbered i ps)
  numbered_in i [] le = tt
  numbered_in i (p ∷ ps) le = (omega arith, numbered_in (i + 1) ps (omega arith))

  round_in : (s : ℕ) (vs : List Visit) → AllByRecursion In vs → AllByRecursion In (once_round s vs)
  round_in s vs a =
      All-append In (drop s vs) (take s vs ++ map ending (take 1 (drop s vs))) (All-drop In s vs a)
      (All-append In (take s vs) (map ending (take 1 (drop s vs))) (All-take In s vs a)
      (All-map In ending (take 1 (drop s vs)) (All-take In 1 (drop s vs) (All-drop In s vs a))))

  first_in : (t : Taken) → AllByRecursion In (visits_in t) → In (first_of t)
  first_in (lone v) h = h.0
  first_in (more t v) h = first_in t (all_left In (visits_in t) (v ∷ []) h)

  end_in : (t : Taken) → AllByRecursion In (visits_in t) → In (last_of t)
  end_in (lone v) h = h.0
  end_in (more t v) h = (all_right In (visits_in t) (v ∷ []) h).0

  module _ (dim : Dimension) (vs : List Visit) (in-vs : AllByRecursion In vs) where
    row_in : (t : Taken) → Row dim vs t → AllByRecursion In (visits_in t)
    row_in t r = all_left In (visits_in t) r.after (all_right In r.before (visits_in t ++ r.after) (subst (AllByRecursion In) r.along in-vs))

    whole_in : (g : Group) → AllByRecursion (Row dim vs) (rows_in g) → In (last_of (whole g))
    whole_in (single t) h = end_in t (row_in t h.0)
    whole_in (then g t) h =
        subst In (sym (last-both (whole g) t)) (end_in t (row_in t (all_right (Row dim vs) (rows_in g) (t ∷ []) h).0))

    merged_in : (g : Group) (s : Stretch) → AllByRecursion (Row dim vs) (rows_in g) → Merged g s → InS s
    merged_in g s h m = record {
      first = first_in s.own (row_in s.own (all_right (Row dim vs) m.before (s.own ∷ m.after) (subst (AllByRecursion (Row dim vs)) m.parts h)).0);
      last = subst (λ (t : Taken). In (last_of t)) (sym m.all) (whole_in g h);
    }

    groups_in : (gs : List Group) (ss : List Stretch) → AllByRecursion (Row dim vs) (all_rows gs) → AllMerged gs ss → AllByRecursion InS ss
    groups_in [] [] h m = tt
    groups_in [] (s ∷ ss) h m = absurd m
    groups_in (g ∷ gs) [] h m = absurd m
    groups_in (g ∷ gs) (s ∷ ss) h m = (
      merged_in g s (all_left (Row dim vs) (rows_in g) (all_rows gs) h) m.0,
      groups_in gs ss (all_right (Row dim vs) (rows_in g) (all_rows gs) h) m.1,
    )

course_in : (dim : Dimension) (ps : List AxisPoint) → AllByRecursion (InS (length ps)) (stretches_of (course_of dim ps))
course_in dim [] = tt
course_in dim (p ∷ []) = (record { first = omega arith; last = omega arith }, tt)
course_in dim (p ∷ q ∷ ps) =
    let f : Falls dim (visits_of dim (p ∷ q ∷ ps)) (stretches_of (course_of dim (p ∷ q ∷ ps))) = contours_fall dim p q ps in
    groups_in (length (p ∷ q ∷ ps)) dim (visits_of dim (p ∷ q ∷ ps))
    (round_in (length (p ∷ q ∷ ps)) (start_of dim (p ∷ q ∷ ps)) (numbered 0 (p ∷ q ∷ ps)) (numbered_in (length (p ∷ q ∷ ps)) 0 (p ∷ q ∷ ps) (omega arith)))
    f.groups (stretches_of (course_of dim (p ∷ q ∷ ps))) f.rows f.merged

-- what holds of the segment of each stretch holds of each segment
each_segment : (P : Segment → Type 0) (units : ℕ) (n : ℕ) → ((s : Stretch) → InS n s → P (segment_of units (summary 0 s))) →
    (ss : List Stretch) → AllByRecursion (InS n) ss → AllByRecursion P (map (λ s. segment_of units (summary 0 s)) ss)
each_segment P units n f [] h = tt
each_segment P units n f (s ∷ ss) h = (f s h.0, each_segment P units n f ss h.1)

pub segments_in : (dim : Dimension) (units : ℕ) (ps : List Point) → AllByRecursion (λ s. (s.first < length ps) × (s.last < length ps)) (segments_of dim units ps)
unfolding segments_of
segments_in dim units ps =
    let n : length (map (seen dim) ps) ≡ length ps = length-map ps (seen dim) in
    each_segment (λ s. (s.first < length ps) × (s.last < length ps)) units (length (map (seen dim) ps))
    (λ s h. (omega (arith, h.first), omega (arith, h.last)))
    (stretches_of (course_of dim (map (seen dim) ps))) (course_in dim (map (seen dim) ps))

pub segments_unlinked : (dim : Dimension) (units : ℕ) (ps : List Point) → AllByRecursion Unlinked (segments_of dim units ps)
unfolding segments_of
segments_unlinked dim units ps =
    each_segment Unlinked units (length (map (seen dim) ps))
    (λ s h. record { ordered = ordered-told s.own; tall = (segments-told units s).tall; score = refl; link = refl; serif = refl })
    (stretches_of (course_of dim (map (seen dim) ps))) (course_in dim (map (seen dim) ps))

module _ (dim : Dimension) (units : ℕ) (ps : List Point) where
  -- one contour among others
  entries_lie : (cs : List Contour) (c : Contour) → ContainsAt cs c → c.first ≤ c.end → c.end ≤ length ps → AllByRecursion (Lies cs) (entries_of dim units ps c)
  unfolding entries_of
  entries_lie cs c has le end =
      let n : length (points_of ps c) ≡ c.end - c.first
      = length-take-le (c.end - c.first) (drop c.first ps) (omega (arith, length-drop c.first ps)) in
      All-map (Lies cs) (shifted c.first) (segments_of dim units (points_of ps c))
      (All-weaker (λ s. (s.first < length (points_of ps c)) × (s.last < length (points_of ps c))) (λ s. Lies cs (shifted c.first s))
      (λ s h. record {
        contour = c;
        listed = has;
        first_low = omega arith;
        first_high = omega (arith, h.0);
        last_low = omega arith;
        last_high = omega (arith, h.1);
      })
      (segments_of dim units (points_of ps c)) (segments_in dim units (points_of ps c)))

  entries_unlinked : (c : Contour) → AllByRecursion Unlinked (entries_of dim units ps c)
  unfolding entries_of
  entries_unlinked c =
      All-map Unlinked (shifted c.first) (segments_of dim units (points_of ps c))
      (All-weaker Unlinked (λ s. Unlinked (shifted c.first s))
      (λ s h. record { ordered = h.ordered; tall = h.tall; score = h.score; link = h.link; serif = h.serif })
      (segments_of dim units (points_of ps c)) (segments_unlinked dim units (points_of ps c)))

  all_lie : (cs ds : List Contour) → ((c : Contour) → ContainsAt ds c → ContainsAt cs c) → Inside (length ps) ds → AllByRecursion (Lies cs) (all_entries dim units ps ds)
  all_lie cs [] f i = tt
  all_lie cs (d ∷ ds) f i =
      All-append (Lies cs) (entries_of dim units ps d) (all_entries dim units ps ds)
      (entries_lie cs d (f d (here d ds)) i.0 i.1)
      (all_lie cs ds (λ c h. f c (has_append_right (d ∷ []) ds c h)) i.2)
    where
      here : (d : Contour) (ds : List Contour) → ContainsAt (d ∷ ds) d
      here d ds = (0, omega arith, λ _. refl)

  all_unlinked : (ds : List Contour) → AllByRecursion Unlinked (all_entries dim units ps ds)
  all_unlinked [] = tt
  all_unlinked (d ∷ ds) = All-append Unlinked (entries_of dim units ps d) (all_entries dim units ps ds) (entries_unlinked d) (all_unlinked ds)

  granted_within : (cs : List Contour) (t t' : List Segment) (n : ℕ) → Inside (length ps) cs → Granted dim units ps cs t t' n →
      AllByRecursion (Lies cs) (take n t') × AllByRecursion Unlinked (take n t')
  granted_within cs t t' n i g =
      let front : take n t' ≡ all_entries dim units ps cs = ap (take n) g.table ∙ take_at (all_entries dim units ps cs) _ n (sym g.count) in
      (subst (AllByRecursion (Lies cs)) (sym front) (all_lie cs cs (λ c h. h) i), subst (AllByRecursion Unlinked) (sym front) (all_unlinked cs))

  pub read-within : (cs : List Contour) (t t' : List Segment) (r : Result ℕ BuildFault) → Inside (length ps) cs → Read dim units ps cs t t' r → Within cs t' r
  read-within cs t t' (Ok n) i g = granted_within cs t t' n i g
  read-within cs t t' (Err e) i g = tt
