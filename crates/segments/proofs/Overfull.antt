-- A reading is refused exactly where a segment opens while more than 1,000 are held.
use Rattle.std.proofs.Common.{◌≡◌, ℕ, ◌+◌, ◌<◌, ◌≤◌, Bool, true, false, cond, ◌||◌, ltb, ◌⊎◌, List, [], ◌∷◌, ◌++◌, map, length, Some, None, Ok, Err, Decides, fold, Option, Result, sym, refl, ap, ◌∙◌, subst, inl, inr, append_assoc, arith}
use Rattle.std.proofs.lemmas.List.Sums.{fold-append}
use Rattle.std.proofs.lemmas.List.{append-nil, length-append, length_push, length-map}
use Rattle.std.proofs.lemmas.Bool.{both_ways, cases_lt, ltb-true, ltb-false, false≢true}
use Rattle.std.specs.Option.{option_len, option_map, option_to_list}
use Rattle.outline.specs.declared.contours.Contour.{Contour}
use Rattle.outline.specs.declared.points.Point.{Point}
use Rattle.segments.specs.declared.faults.BuildFault.{BuildFault}
use Rattle.segments.specs.declared.faults.BuildFault.TheVariants.{TooManySegments}
use Rattle.segments.specs.declared.measures.AxisPoint.{AxisPoint}
use Rattle.segments.specs.declared.measures.Dimension.{Dimension}
use Rattle.segments.specs.declared.tables.Segment.{Segment}
use Rattle.segments.specs.Building.{Visit, room_with, visits_of}
use Rattle.segments.specs.Measures.{seen}
use Rattle.segments.specs.Readings.{points_of, entries_of, room_of, all_entries, overflows, Read}
use Rattle.segments.specs.Refusals.{Opens, OpensIn, Overfull, Justly}
use Rattle.segments.specs.Segments.{segment_of}
use Rattle.segments.specs.Stretches.{Taken, Stretch, summary, went, Course, touches, plain, earlier, newest, coursed, setting_out, course, course_of, stretches_of, segments_of, most_of, shifted}
use Rattle.segments.proofs.Bridge.{SP, move_of, moved_is}
use Rattle.segments.proofs.Follow.{room_grows, room_holds}
use Rattle.segments.proofs.Rooms.{one_le, Sound, moved_sound}

module _ (dim : Dimension) where
  course-more : (vs : List Visit) (v : Visit) → course dim (vs ++ v ∷ []) ≡ coursed dim (course dim vs) v
  unfolding course
  course-more vs v = fold-append (coursed dim) setting_out vs (v ∷ [])

  course-append : (vs us : List Visit) → course dim (vs ++ us) ≡ fold (coursed dim) (course dim vs) us
  unfolding course
  course-append vs us = fold-append (coursed dim) setting_out vs us

  -- the room never shrinks
  room_stays : (c : Course) (vs : List Visit) → c.room ≤ (fold (coursed dim) c vs).room
  room_stays c [] = omega arith
  room_stays c (v ∷ vs) =
      omega (
        arith,
        room_grows (went dim c.inside v).opens c.room (length (stretches_of (coursed dim c v))),
        room_stays (coursed dim c v) vs,
      )

  room-opens : (o : Bool) (room n : ℕ) → o ≡ true → n + 1 ≤ room_with room o n
  room-opens true room n e = omega arith
  room-opens false room n e = absurd (false≢true e)

  -- there is room for a segment that opens
  opens_fit : (vs : List Visit) (k : ℕ) → Opens dim vs k → k + 1 ≤ (course dim vs).room
  opens_fit vs k o =
      let here : course dim (o.before ++ o.here ∷ []) ≡ coursed dim (course dim o.before) o.here = course-more o.before o.here in
      let whole : course dim vs ≡ fold (coursed dim) (course dim (o.before ++ o.here ∷ [])) o.after
      = ap (course dim) (o.along ∙ sym (append_assoc o.before (o.here ∷ []) o.after)) ∙ course-append (o.before ++ o.here ∷ []) o.after in
      let n : k ≡ length (stretches_of (coursed dim (course dim o.before) o.here))
      = o.held ∙ ap (λ (c : Course). length (stretches_of c)) here in
      omega (
        arith,
        ap (λ (c : Course). c.room) whole,
        ap (λ (c : Course). c.room) here,
        room_stays (course dim (o.before ++ o.here ∷ [])) o.after,
        room-opens (went dim (course dim o.before).inside o.here).opens (course dim o.before).room
            (length (stretches_of (coursed dim (course dim o.before) o.here))) o.opens,
      )

  -- and no more room than that
  module _ (vs : List Visit) where
    abbrev Reached : Course → Type 0
    Reached c = (c.room ≡ 0) ⊎ ((k : ℕ) × Opens dim vs k × (c.room ≡ k + 1))

    reached_by : (o : Bool) (room n r : ℕ) → (o ≡ true → Opens dim vs n) → (room ≡ 0) ⊎ ((k : ℕ) × Opens dim vs k × (room ≡ k + 1)) →
        r ≡ room_with room o n → (r ≡ 0) ⊎ ((k : ℕ) × Opens dim vs k × (r ≡ k + 1))
    reached_by false room n r w h e = elim h [ inl z ↦ inl (e ∙ z) | inr x ↦ inr (x.0, x.1, e ∙ x.2) ]
    reached_by true room n r w h e =
        elim h [
          | inl z ↦ inr (n, w refl, omega arith)
          | inr x ↦ elim (cases_lt n x.0) [ inl lt ↦ inr (x.0, x.1, omega (arith, x.2)) | inr le ↦ inr (n, w refl, omega (arith, x.2)) ]
        ]

    reached : (pre post : List Visit) → vs ≡ pre ++ post → Reached (course dim pre) → Reached (course dim vs)
    reached pre [] e h = subst (λ (us : List Visit). Reached (course dim us)) (sym (e ∙ append-nil pre)) h
    reached pre (v ∷ post) e h =
        reached (pre ++ v ∷ []) post (e ∙ sym (append_assoc pre (v ∷ []) post))
        (reached_by (went dim (course dim pre).inside v).opens (course dim pre).room (length (stretches_of (coursed dim (course dim pre) v)))
        (course dim (pre ++ v ∷ [])).room
        (λ o. record {
          before = pre;
          here = v;
          after = post;
          along = e;
          opens = o;
          held = ap (λ (c : Course). length (stretches_of c)) (sym (course-more pre v));
        })
        h (ap (λ (c : Course). c.room) (course-more pre v)))

    all_reached : Reached (course dim vs)
    unfolding course
    all_reached = reached [] vs refl (inl refl)

  -- each segment was opened
  one_is : (o : Option Taken) → option_len (option_map (SP dim 0) o) ≡ option_len o
  one_is None = refl
  one_is (Some t) = refl

  closed_is : (o : Option Taken) → length (option_to_list (option_map (SP dim 0) o)) ≡ length (option_to_list o)
  closed_is None = refl
  closed_is (Some t) = refl

  sound : (o : Option Taken) (v : Visit) → Sound (option_map (SP dim 0) o) (move_of dim 0 (went dim o v))
  sound o v = subst (Sound (option_map (SP dim 0) o)) (moved_is dim 0 o v) (moved_sound dim (option_map (SP dim 0) o) (0 + v.at) v.point v.ends)

  count_by : (j : Bool) (done : List Stretch) (e s : Stretch) → length (cond j done (done ++ e ∷ []) ++ s ∷ []) ≤ length (done ++ e ∷ []) + 1
  count_by true done e s = omega (arith, length_push done e, length_push done s)
  count_by false done e s = omega (arith, length_push (done ++ e ∷ []) s)

  count_le : (done : List Stretch) (latest : Option Stretch) (closed : Option Taken) →
      length (earlier done latest closed ++ option_to_list (newest latest closed)) ≤ length (done ++ option_to_list latest) + length (option_to_list closed)
  count_le done latest None = omega arith
  count_le done None (Some t) = omega (arith, length_push (done ++ []) (plain t))
  count_le done (Some e) (Some t) = count_by (touches (Some e) t) done e _

  course-fits : (c : Course) (vs : List Visit) → length (stretches_of c) + option_len c.inside ≤ c.room →
      length (stretches_of (fold (coursed dim) c vs)) ≤ (fold (coursed dim) c vs).room
  course-fits c [] h = omega (arith, h)
  course-fits c (v ∷ vs) h =
      course-fits (coursed dim c v) vs
      (room_holds (went dim c.inside v).opens c.room (length (stretches_of (coursed dim c v))) (option_len (went dim c.inside v).inside)
      (omega (arith, one_is (went dim c.inside v).inside, one_le (option_map (SP dim 0) (went dim c.inside v).inside)))
      (λ e. omega (
        arith,
        (sound c.inside v).quiet e,
        count_le c.done c.latest (went dim c.inside v).closed,
        closed_is (went dim c.inside v).closed,
        one_is c.inside,
        one_is (went dim c.inside v).inside,
      )))

  all_fit : (ps : List AxisPoint) → length (stretches_of (course_of dim ps)) ≤ (course_of dim ps).room
  unfolding course
  all_fit [] = omega arith
  all_fit (p ∷ []) = omega arith
  all_fit (p ∷ q ∷ ps) = course-fits setting_out (visits_of dim (p ∷ q ∷ ps)) (omega arith)

  -- one contour, with h held before it
  full_in : (h : ℕ) (ps : List AxisPoint) → 1001 < h + (course_of dim ps).room → h ≤ 1001 → (k : ℕ) × OpensIn dim ps k × (1000 < h + k)
  full_in h [] lt le = absurd (omega arith)
  full_in h (p ∷ []) lt le = (0, refl, omega arith)
  full_in h (p ∷ q ∷ ps) lt le =
      elim (all_reached (visits_of dim (p ∷ q ∷ ps))) [
        | inl z ↦ absurd (omega arith)
        | inr x ↦ (x.0, x.1, omega (arith, x.2))
      ]

  fits_in : (h k : ℕ) (ps : List AxisPoint) → OpensIn dim ps k → h + (course_of dim ps).room ≤ 1001 → h + k ≤ 1000
  fits_in h k [] o le = absurd o
  fits_in h k (p ∷ []) o le = omega arith
  fits_in h k (p ∷ q ∷ ps) o le = omega (arith, opens_fit (visits_of dim (p ∷ q ∷ ps)) k o)

module _ (dim : Dimension) (units : ℕ) (ps : List Point) where
  abbrev read : Contour → List AxisPoint
  read c = map (seen dim) (points_of ps c)

  room_is : (c : Contour) → room_of dim ps c ≡ (course_of dim (map (seen dim) (points_of ps c))).room
  unfolding room_of most_of
  room_is c = refl

  entries_fit : (c : Contour) → length (entries_of dim units ps c) ≤ room_of dim ps c
  unfolding entries_of room_of segments_of most_of
  entries_fit c =
      omega (
        arith,
        all_fit dim (read c),
        length-map (segments_of dim units (points_of ps c)) (shifted c.first),
        length-map (stretches_of (course_of dim (read c))) (λ s. segment_of units (summary 0 s)),
      )

  -- contours before
  overfull_more : (h : ℕ) (c : Contour) (cs : List Contour) → Overfull dim units ps (h + length (entries_of dim units ps c)) cs → Overfull dim units ps h (c ∷ cs)
  overfull_more h c cs o = record {
    before = c ∷ o.before;
    here = o.here;
    after = o.after;
    parts = ap (λ (r : List Contour). c ∷ r) o.parts;
    held = o.held;
    opens = o.opens;
    full = omega (arith, o.full, length-append (entries_of dim units ps c) (all_entries dim units ps o.before));
  }

  overfull_here : (h : ℕ) (c : Contour) (cs : List Contour) → 1001 < h + room_of dim ps c → h ≤ 1001 → Overfull dim units ps h (c ∷ cs)
  overfull_here h c cs lt le =
      let x = full_in dim h (read c) (omega (arith, room_is c)) le in
      record { before = []; here = c; after = cs; parts = refl; held = x.0; opens = x.1; full = omega (arith, x.2) }

  -- a contour that fits is passed over
  passes : (h : ℕ) (c : Contour) (cs bs es : List Contour) (d : Contour) (k : ℕ) → h + room_of dim ps c ≤ 1001 → c ∷ cs ≡ bs ++ d ∷ es →
      OpensIn dim (read d) k → 1000 < h + length (all_entries dim units ps bs) + k → Overfull dim units ps (h + length (entries_of dim units ps c)) cs
  passes h c cs [] es d k le e o f =
      let same : c ≡ d = cc in
      absurd (omega (arith, fits_in dim h k (read c) (subst (λ (b : Contour). OpensIn dim (read b) k) (sym same) o) (omega (arith, room_is c))))
  passes h c cs (b ∷ bs) es d k le e o f =
      let same : c ≡ b = cc in
      let rest : cs ≡ bs ++ d ∷ es = cc in
      record {
        before = bs;
        here = d;
        after = es;
        parts = rest;
        held = k;
        opens = o;
        full = omega (
          arith,
          length-append (entries_of dim units ps b) (all_entries dim units ps bs),
          ap (λ (x : Contour). length (entries_of dim units ps x)) same,
        );
      }

  decides_by : (j : Bool) (h : ℕ) (c : Contour) (cs : List Contour) → ltb 1001 (h + room_of dim ps c) ≡ j → h ≤ 1001 →
      (h + room_of dim ps c ≤ 1001 → Decides (overflows dim units ps (h + length (entries_of dim units ps c)) cs) (Overfull dim units ps (h + length (entries_of dim units ps c)) cs)) →
      Decides (j || overflows dim units ps (h + length (entries_of dim units ps c)) cs) (Overfull dim units ps h (c ∷ cs))
  decides_by true h c cs e le d = (λ _. overfull_here h c cs (ltb-true 1001 (h + room_of dim ps c) e) le, λ _. refl)
  decides_by false h c cs e le d =
      let fits : h + room_of dim ps c ≤ 1001 = ltb-false 1001 (h + room_of dim ps c) e in (
        λ t. overfull_more h c cs ((d fits).0 t),
        λ o. (d fits).1 (passes h c cs o.before o.after o.here o.held fits o.parts o.opens o.full),
      )

  overflows_decides : (h : ℕ) (cs : List Contour) → h ≤ 1001 → Decides (overflows dim units ps h cs) (Overfull dim units ps h cs)
  overflows_decides h [] le = (
    λ e. absurd (false≢true e),
    λ o. absurd (omega (arith, ap length o.parts, length-append o.before (o.here ∷ o.after))),
  )
  overflows_decides h (c ∷ cs) le =
      decides_by (ltb 1001 (h + room_of dim ps c)) h c cs refl le
      (λ fits. overflows_decides (h + length (entries_of dim units ps c)) cs (omega (arith, entries_fit c)))

  pub read_justly : (cs : List Contour) (t t' : List Segment) (r : Result ℕ BuildFault) → Read dim units ps cs t t' r → Justly dim units ps cs r
  read_justly cs t t' (Ok n) g = λ o. both_ways (overflows dim units ps 0 cs) g.fits ((overflows_decides 0 cs (omega arith)).1 o)
  read_justly cs t t' (Err TooManySegments) g = (overflows_decides 0 cs (omega arith)).0 g.over
