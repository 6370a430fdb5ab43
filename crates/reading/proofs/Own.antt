-- A contour's own segments in a finished table are those that it has alone.
use Rattle.std.proofs.Common.{◌≡◌, ℕ, zero, suc, ◌+◌, ◌<◌, ◌≤◌, Bool, true, false, cond, ltb, List, [], ◌∷◌, ◌++◌, map, length, get_or, take, ℤ, None, Ok, Err, filter, Option, sym, refl, ap, ◌∙◌, append-nil, arith}
use mathlib.Core.List.{map-map}
use lib.ListN.{length-map}
use Rattle.std.specs.List.{range_with_len, AllByRecursion}
use Rattle.std.proofs.lemmas.List.FromFn.{fill_by_all}
use Rattle.std.proofs.lemmas.List.Elements.{filter-append}
use Rattle.std.proofs.ByRecursion.{All-append, All-map, All-weaker}
use Rattle.std.proofs.lemmas.List.{map-append, take-map, get_or-map, take_at}
use Rattle.std.proofs.lemmas.Bool.{le-ltb, lt-ltb, le-leb, lt-leb}
use Rattle.outline.specs.declared.points.DrawnPoint.{DrawnPoint}
use Rattle.outline.specs.Units.{near_limit}
use Rattle.analysis.specs.Outlines.{Contours, first_of}
use Rattle.analysis.specs.Records.{analysed}
use Rattle.analysis.proofs.Tilings.{length-analysed}
use Rattle.segments.specs.declared.faults.BuildFault.TheVariants.{TooManySegments}
use Rattle.segments.specs.declared.measures.Dimension.{Dimension}
use Rattle.segments.specs.declared.tables.Segment.{Segment}
use Rattle.segments.specs.Laws.{Unlinked}
use Rattle.segments.specs.Stretches.{shifted}
use Rattle.segments.proofs.Within.{segments_in, segments_unlinked}
use Rattle.linking.specs.declared.rules.Rule.{Rule}
use Rattle.linking.specs.Choices.{at, blank, holding}
use Rattle.linking.specs.Links.{linked_table}
use Rattle.reading.specs.declared.faults.ReadFault.TheVariants.{Build}
use Rattle.reading.specs.Drawn.{contour_segments, drawn_segments, crowded}
use Rattle.reading.specs.Own.{counted_from, begins_in, own_segments}
use Rattle.reading.specs.Readings.{axis_rule, answer, built_table, read_table, table_after}

-- ---- linking does not matter

-- the segment as if nothing were linked
abbrev bare : Segment → Segment
bare s = holding s 32000 None None

-- as own_segments, of all entries
abbrev own : ℕ → ℕ → List Segment → List Segment
own f e xs = map (counted_from f) (filter (begins_in f e) xs)

bare-chosen : (b : Bool) (s : Segment) (x : ℕ) (y z : Option ℕ) → bare (cond b (holding s x y z) s) ≡ bare s
bare-chosen true s x y z = refl
bare-chosen false s x y z = refl

-- linking changes nothing else
bare-linked : (r : Rule) (n : ℕ) (xs : List Segment) → map bare (linked_table r n xs) ≡ map bare xs
bare-linked r n xs =
    map-map bare _ (range_with_len 0 (length xs)) ∙ sym (fill_by_all _ (map bare xs) (length xs) blank (length-map xs bare)
    (λ k l. get_or-map bare xs k blank blank l ∙ sym (bare-chosen (ltb k n) (at xs k) _ _ _)))

own_bare : (f e : ℕ) (xs : List Segment) → own f e (map bare xs) ≡ own f e xs
own_bare f e [] = refl
own_bare f e (x ∷ xs) = own-more (begins_in f e x) (own_bare f e xs)
  where
    own-more : (b : Bool) → own f e (map bare xs) ≡ own f e xs
        → map (counted_from f) (cond b (bare x ∷ filter (begins_in f e) (map bare xs)) (filter (begins_in f e) (map bare xs)))
        ≡ map (counted_from f) (cond b (x ∷ filter (begins_in f e) xs) (filter (begins_in f e) xs))
    own-more true h = ap (λ (ys : List Segment). counted_from f x ∷ ys) h
    own-more false h = h

own-linked : (r : Rule) (m f e n : ℕ) (xs : List Segment) → own_segments f e n (linked_table r m xs) ≡ own_segments f e n xs
own-linked r m f e n xs =
    let linked = own_bare f e (take n (linked_table r m xs)) in
    let built = own_bare f e (take n xs) in
    let before = ap (λ (ys : List Segment). own f e (take n ys)) (bare-linked r m xs) in
    let one = ap (own f e) (take-map bare n (linked_table r m xs)) in
    let two = ap (own f e) (take-map bare n xs) in
    sym linked ∙ sym one ∙ before ∙ two ∙ built

-- ---- each contour's segments lie in its range alone

own-append : (f e : ℕ) (xs ys : List Segment) → own f e (xs ++ ys) ≡ own f e xs ++ own f e ys
own-append f e xs ys = ap (map (counted_from f)) (filter-append (begins_in f e) xs ys) ∙ map-append (counted_from f) (filter (begins_in f e) xs) (filter (begins_in f e) ys)

begins : (f e : ℕ) (s : Segment) → f ≤ s.first → s.first < e → begins_in f e s ≡ true
begins f e s low high = rw (le-leb f s.first low, lt-ltb s.first e high)

begins_before : (f e : ℕ) (s : Segment) → s.first < f → begins_in f e s ≡ false
begins_before f e s low = rw (lt-leb f s.first low)

begins_past : (f e : ℕ) (s : Segment) → f ≤ e → e ≤ s.first → begins_in f e s ≡ false
begins_past f e s le high = rw (le-leb f s.first (omega arith), le-ltb s.first e high)

own-none : (f e : ℕ) (xs : List Segment) → AllByRecursion (λ s. begins_in f e s ≡ false) xs → own f e xs ≡ []
own-none f e [] h = refl
own-none f e (x ∷ xs) h = rw h.0 (own-none f e xs h.1)

-- a segment as it is before linking, within n points
record Fresh (n : ℕ) (s : Segment) : Type 0 where
  pub unlinked : Unlinked s
  pub inside : s.first < n

-- a segment whose last five fields are told one by one
told : (s : Segment) (score : ℕ) (link serif : Option ℕ) (first last : ℕ) → score ≡ s.score → link ≡ s.link → serif ≡ s.serif → first ≡ s.first → last ≡ s.last
    → ◌≡◌ {A = Segment} (record {
      dir = s.dir;
      pos = s.pos;
      delta = s.delta;
      min_coord = s.min_coord;
      max_coord = s.max_coord;
      height = s.height;
      round = s.round;
      score = score;
      link = link;
      serif = serif;
      first = first;
      last = last;
    }) s
told s score link serif first last p q r v w = rw (p, q, r, v, w)

counted_back : (b : ℕ) (s : Segment) → Unlinked s → counted_from b (shifted b s) ≡ s
counted_back b s u = told s _ _ _ _ _ (sym u.score) (sym u.link) (sym u.serif) (omega arith) (omega arith)

consed : {x y : Segment} {xs ys : List Segment} → x ≡ y → xs ≡ ys → x ∷ xs ≡ y ∷ ys
consed p q = cc

own-all : (b n : ℕ) (xs : List Segment) → AllByRecursion (Fresh n) xs → own b (b + n) (map (shifted b) xs) ≡ xs
own-all b n [] h = refl
own-all b n (x ∷ xs) h =
    rw (begins b (b + n) (shifted b x) (omega arith) (omega (arith, h.0.inside)))
    (consed (counted_back b x h.0.unlinked) (own-all b n xs h.1))

all_both : {X : Type 0} (P Q R : X → Type 0) → ((x : X) → P x → Q x → R x) → (xs : List X) → AllByRecursion P xs → AllByRecursion Q xs → AllByRecursion R xs
all_both P Q R f [] p q = tt
all_both P Q R f (x ∷ xs) p q = (f x p.0 q.0, all_both P Q R f xs p.1 q.1)

module _ (flat : ℤ → ℤ → ℤ → ℤ → Bool) (dim : Dimension) (units : ℕ) where
  fresh : (c : List DrawnPoint) → AllByRecursion (Fresh (length c)) (contour_segments flat dim units c)
  fresh c =
      let rs = analysed flat (near_limit units) 0 c in
      let count = length-analysed flat (near_limit units) 0 c in
      all_both Unlinked (λ s. (s.first < length rs) × (s.last < length rs)) (Fresh (length c))
      (λ s u i. record { unlinked = u; inside = omega (arith, i.0, count) })
      (contour_segments flat dim units c) (segments_unlinked dim units rs) (segments_in dim units rs)

  -- a contour's segments, moved up to its place, begin in its range
  moved_in : (b : ℕ) (c : List DrawnPoint) → AllByRecursion (λ s. (b ≤ s.first) × (s.first < b + length c)) (map (shifted b) (contour_segments flat dim units c))
  moved_in b c =
      All-map (λ s. (b ≤ s.first) × (s.first < b + length c)) (shifted b) (contour_segments flat dim units c)
      (All-weaker (Fresh (length c)) (λ s. (b ≤ b + s.first) × (b + s.first < b + length c)) (λ s i. (omega arith, omega (arith, i.inside))) (contour_segments flat dim units c) (fresh c))

  -- those of the contours from the index b on begin there or later
  drawn_from : (b : ℕ) (cs : Contours) → AllByRecursion (λ s. b ≤ s.first) (drawn_segments flat dim units b cs)
  drawn_from b [] = tt
  drawn_from b (c ∷ cs) =
      All-append (λ s. b ≤ s.first) (map (shifted b) (contour_segments flat dim units c)) (drawn_segments flat dim units (b + length c) cs)
      (All-weaker (λ s. (b ≤ s.first) × (s.first < b + length c)) (λ s. b ≤ s.first) (λ s i. i.0) (map (shifted b) (contour_segments flat dim units c)) (moved_in b c))
      (All-weaker (λ s. b + length c ≤ s.first) (λ s. b ≤ s.first) (λ s i. omega arith) (drawn_segments flat dim units (b + length c) cs) (drawn_from (b + length c) cs))

  own-drawn : (b k f e : ℕ) (cs : Contours) → k < length cs → f ≡ b + first_of cs k → e ≡ f + length (get_or cs k [])
      → own f e (drawn_segments flat dim units b cs) ≡ contour_segments flat dim units (get_or cs k [])
  own-drawn b k f e [] l p q = absurd (omega arith)
  own-drawn b zero f e (c ∷ cs) l p q =
      let here = contour_segments flat dim units c in
      let rest = drawn_segments flat dim units (b + length c) cs in
      let start : f ≡ b = omega arith in
      let end : e ≡ b + length c = omega arith in
      let first : own f e (map (shifted b) here) ≡ here = rw (end, start) (own-all b (length c) here (fresh c)) in
      let none = own-none f e rest (All-weaker (λ s. b + length c ≤ s.first) (λ s. begins_in f e s ≡ false) (λ s i. begins_past f e s (omega arith) (omega arith)) rest (drawn_from (b + length c) cs)) in
      own-append f e (map (shifted b) here) rest ∙ rw (first, none) (append-nil here)
  own-drawn b (suc k) f e (c ∷ cs) l p q =
      let here = map (shifted b) (contour_segments flat dim units c) in
      let rest = drawn_segments flat dim units (b + length c) cs in
      let none = own-none f e here (All-weaker (λ s. (b ≤ s.first) × (s.first < b + length c)) (λ s. begins_in f e s ≡ false) (λ s i. begins_before f e s (omega (arith, i.1))) here (moved_in b c)) in
      own-append f e here rest ∙ rw none (own-drawn (b + length c) k f e cs (omega arith) (omega arith) q)

-- ---- in a reading

-- an answer that is no refusal: which number it is
granted : (crowds : Bool) (m n : ℕ) → cond crowds (Err (Build TooManySegments)) (Ok m) ≡ Ok n → (crowds ≡ false) × (m ≡ n)
granted true m n e = absurd (let z : ◌≡◌ {A = ℕ} 0 1 = cc in omega arith)
granted false m n e = (refl, cc)

pub own_in_reading : (flat : ℤ → ℤ → ℤ → ℤ → Bool) (units width : ℕ) (dim : Dimension) (cs : Contours) (k n : ℕ) (t : List Segment)
    → k < length cs → 1001 ≤ length t → answer flat units dim cs (length t) ≡ Ok n
    → own_segments (first_of cs k) (first_of cs k + length (get_or cs k [])) n (table_after flat units width dim cs t) ≡ contour_segments flat dim units (get_or cs k [])
own_in_reading flat units width dim cs k n t l long e =
    let f = first_of cs k in
    let end = f + length (get_or cs k []) in
    let drawn = drawn_segments flat dim units 0 cs in
    let short = le-ltb (length t) 1001 long in
    let fits = granted (crowded flat dim units 0 cs) (length drawn) n (rw short at e) in
    let table : table_after flat units width dim cs t ≡ read_table flat units width dim cs (length t) = rw (short, fits.0) in
    ap (own_segments f end n) table ∙ own-linked (axis_rule units width dim cs) (length drawn) f end n (built_table flat units dim cs (length t))
    ∙ ap (own f end) (take_at drawn _ n fits.1) ∙ own-drawn flat dim units 0 k f end cs l (omega arith) refl
