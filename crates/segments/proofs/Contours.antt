-- Contour after contour.
use Rattle.std.proofs.Common.{◌≡◌, ℕ, ◌+◌, ◌-◌, ◌<◌, ◌≤◌, Bool, true, false, ◌||◌, ltb, List, [], ◌∷◌, ◌++◌, map, length, get_or, take, drop, is_err, Ok, Err, Result, sym, ap, ◌∙◌, subst, append_assoc, arith}
use Rattle.std.proofs.lemmas.List.{length-append, length-map, drop_more, take_at}
use Rattle.std.proofs.lemmas.Bool.{lt-ltb, le-ltb, or_left, false≢true}
use Rattle.std.specs.Result.{result_unwrap_or}
use Rattle.segments.specs.declared.measures.Dimension.{Dimension}
use Rattle.outline.specs.declared.contours.Contour.{Contour}
use Rattle.outline.specs.declared.points.Point.{Point}
use Rattle.segments.specs.declared.faults.BuildFault.{BuildFault}
use Rattle.segments.specs.declared.faults.BuildFault.TheVariants.{TooManySegments}
use Rattle.segments.specs.declared.fillings.Filling.{Filling}
use Rattle.segments.specs.declared.tables.Segment.{Segment}
use Rattle.segments.specs.Segments.{segment_of}
use Rattle.segments.specs.Building.{Built, put, segs_of, lone_built, built_of}
use Rattle.segments.specs.Fillings.{Along, BuiltAs}
use Rattle.segments.specs.Measures.{seen}
use Rattle.segments.specs.Readings.{points_of, entries_of, room_of, all_entries, overflows, Inside, Fills, Filled, Granted, Read, blanks}
use Rattle.segments.proofs.Bridge.{segments_is, most_is}
use Rattle.segments.proofs.Steps.{after}
use Rattle.segments.proofs.Puts.{put-none, put-put}

-- a step that leaves all but the contour's own state as it is
pub record Same (f g : Filling) : Type 0 where
  pub along : Along f g
  pub held_is : g.held ≡ f.held
  pub table_is : g.table.now ≡ f.table.now

module _ (f g : Filling) (s : Same f g) (base : ℕ) where
  pub built-after : (h : Filling) (b : Built) (r : Result Unit BuildFault) → BuiltAs g h b r → BuiltAs f h b r
  built-after h b (Ok x) a = (
    after s.along a.0,
    omega (arith, a.1, s.held_is),
    a.2 ∙ ap (λ (n : ℕ). n + length (segs_of b)) s.held_is,
    a.3
        ∙ ap (λ (r : List Segment). put r g.held (map (segment_of g.units) (segs_of b))) s.table_is
        ∙ ap (λ (n : ℕ). put f.table.now n (map (segment_of g.units) (segs_of b))) s.held_is
        ∙ ap (λ (u : ℕ). put f.table.now f.held (map (segment_of u) (segs_of b))) s.along.units_is,
  )
  built-after h b (Err e) a = omega (arith, a, s.held_is)

  pub none-answer : (ps : List Point) (x : Unit) → length ps < 1 → BuiltAs f g (built_of f.dim base (map (seen f.dim) ps)) (Ok x)
  none-answer [] x lt = (
    s.along,
    omega (arith, f.few),
    omega (arith, s.held_is),
    s.table_is ∙ sym (put-none f.table.now f.held),
  )
  none-answer (p ∷ ps) x lt = absurd (omega arith)

  pub lone-answer : (h : Filling) (ps : List Point) (d : Point) (r : Result Unit BuildFault) → 0 < length ps → length ps < 2 →
      BuiltAs g h (lone_built base (seen g.dim (get_or ps 0 d))) r → BuiltAs f h (built_of f.dim base (map (seen f.dim) ps)) r
  lone-answer h [] d r lt le a = absurd (omega arith)
  lone-answer h (p ∷ []) d r lt le a =
      built-after h (lone_built base (seen f.dim p)) r (subst (λ (e : Dimension). BuiltAs g h (lone_built base (seen e p)) r) s.along.dim_is a)
  lone-answer h (p ∷ q ∷ ps) d r lt le a = absurd (omega arith)

-- after i contours: what is held so far, and what is left to come
pub record SoFar (dim : Dimension) (units : ℕ) (ps : List Point) (cs : List Contour) (t : List Segment) (i : ℕ) (f : Filling) : Type 0 where
  pub dim_is : f.dim ≡ dim
  pub units_is : f.units ≡ units
  pub made : List Segment
  pub held : f.held ≡ length made
  pub written : f.table.now ≡ made ++ drop (length made) t
  pub rest : made ++ all_entries dim units ps (drop i cs) ≡ all_entries dim units ps cs
  pub ways : overflows dim units ps f.held (drop i cs) ≡ overflows dim units ps 0 cs
  pub within : Inside (length ps) (drop i cs)

module _ (dim : Dimension) (units : ℕ) (ps : List Point) (cs : List Contour) (t : List Segment) (long : 1001 ≤ length t) (i : ℕ) (f : Filling) (d : Contour)
    (s : SoFar dim units ps cs t i f) (lt : i < length cs) where
  abbrev contour : Contour
  contour = get_or cs i d

  abbrev built : Built
  built = built_of dim contour.first (map (seen dim) (points_of ps contour))

  here : drop i cs ≡ get_or cs i d ∷ drop (i + 1) cs
  here = drop_more cs i d lt

  inside : Inside (length ps) (get_or cs i d ∷ drop (i + 1) cs)
  inside = subst (Inside (length ps)) here s.within

  module _ (g : Filling) (qs : List Point) (qs_is : qs ≡ points_of ps contour) (r : Result Unit BuildFault)
      (a : BuiltAs f g (built_of f.dim contour.first (map (seen f.dim) qs)) r) where
    along : BuiltAs f g built r
    along =
        subst (λ (e : Dimension). BuiltAs f g (built_of e contour.first (map (seen e) (points_of ps contour))) r) s.dim_is
        (subst (λ (us : List Point). BuiltAs f g (built_of f.dim contour.first (map (seen f.dim) us)) r) qs_is a)

  module _ (g : Filling) (qs : List Point) (qs_is : qs ≡ points_of ps contour) (x : Unit)
      (a : BuiltAs f g (built_of f.dim contour.first (map (seen f.dim) qs)) (Ok x)) where
    counted : g.held ≡ f.held + length (entries_of dim units ps contour)
    unfolding entries_of
    counted =
        (along g qs qs_is (Ok x) a).2
        ∙ ap (λ k. f.held + k) (sym (length-map (segs_of built) (segment_of units)) ∙ ap length (segments_is dim contour.first units (points_of ps contour)))

    placed : g.table.now ≡ put f.table.now f.held (entries_of dim units ps contour)
    unfolding entries_of
    placed =
        (along g qs qs_is (Ok x) a).3
        ∙ ap (λ (u : ℕ). put f.table.now f.held (map (segment_of u) (segs_of built))) s.units_is
        ∙ ap (put f.table.now f.held) (segments_is dim contour.first units (points_of ps contour))

    fits : ltb 1001 (f.held + room_of dim ps contour) ≡ false
    unfolding room_of
    fits = le-ltb 1001 (f.held + room_of dim ps contour) (omega (arith, (along g qs qs_is (Ok x) a).1, most_is dim contour.first (points_of ps contour)))

    pub sofar_more : SoFar dim units ps cs t (i + 1) g
    sofar_more = record {
      dim_is = a.0.dim_is ∙ s.dim_is;
      units_is = a.0.units_is ∙ s.units_is;
      made = s.made ++ entries_of dim units ps contour;
      held = omega (arith, counted, s.held, length-append s.made (entries_of dim units ps contour));
      written =
          placed
          ∙ ap (λ (r : List Segment). put r f.held (entries_of dim units ps contour)) s.written
          ∙ ap (λ (k : ℕ). put (s.made ++ drop (length s.made) t) k (entries_of dim units ps contour)) s.held
          ∙ put-put t s.made (entries_of dim units ps contour) (omega (arith, s.held, f.few));
      rest =
          append_assoc s.made (entries_of dim units ps contour) (all_entries dim units ps (drop (i + 1) cs))
          ∙ ap (λ (r : List Contour). s.made ++ all_entries dim units ps r) (sym here)
          ∙ s.rest;
      ways =
          ap (λ (k : ℕ). overflows dim units ps k (drop (i + 1) cs)) counted
          ∙ ap (λ (b : Bool). b || overflows dim units ps (f.held + length (entries_of dim units ps contour)) (drop (i + 1) cs)) (sym fits)
          ∙ ap (overflows dim units ps f.held) (sym here)
          ∙ s.ways;
      within = inside.2;
    }

  pub sofar_breaks : (g : Filling) (qs : List Point) → qs ≡ points_of ps contour → (e : BuildFault) →
      BuiltAs f g (built_of f.dim contour.first (map (seen f.dim) qs)) (Err e) → overflows dim units ps 0 cs ≡ true
  unfolding room_of
  sofar_breaks g qs qs_is e a =
      sym s.ways ∙ ap (overflows dim units ps f.held) here
      ∙ or_left (ltb 1001 (f.held + room_of dim ps contour)) (overflows dim units ps (f.held + length (entries_of dim units ps contour)) (drop (i + 1) cs))
      (lt-ltb 1001 (f.held + room_of dim ps contour) (omega (arith, along g qs qs_is (Err e) a, most_is dim contour.first (points_of ps contour))))

pub filled_err : (dim : Dimension) (units : ℕ) (ps : List Point) (cs : List Contour) (t t' : List Segment) (r : Result ℕ BuildFault) →
    is_err r ≡ true → overflows dim units ps 0 cs ≡ true → Filled dim units ps cs t t' r
filled_err dim units ps cs t t' (Ok n) e o = absurd (false≢true e)
filled_err dim units ps cs t t' (Err x) e o = o

-- a reading: filled, and blank after that
module _ (dim : Dimension) (given units : ℕ) (ps : List Point) (cs : List Contour) (t u t' : List Segment)
    (units-is : given ≡ units) (same_length : length u ≡ length t) where
  granted : (n : ℕ) → Fills dim given ps cs t u n → t' ≡ take n u ++ blanks (length u - n) → Granted dim units ps cs t t' n
  granted n f t-is = subst (λ (k : ℕ). Granted dim k ps cs t t' n) units-is (record {
    fits = f.fits;
    few = f.few;
    count = f.count;
    table =
        t-is
        ∙ ap (λ (r : List Segment). take n r ++ blanks (length u - n)) f.table
        ∙ ap (λ (r : List Segment). r ++ blanks (length u - n))
        (take_at (all_entries dim given ps cs) (drop (length (all_entries dim given ps cs)) t) n (sym f.count))
        ∙ ap (λ (k : ℕ). all_entries dim given ps cs ++ blanks (k - n)) same_length;
  })

  pub read_is : (r : Result ℕ BuildFault) → Filled dim given ps cs t u r → t' ≡ take (result_unwrap_or r 0) u ++ blanks (length u - result_unwrap_or r 0) →
      Read dim units ps cs t t' r
  read_is (Ok n) f t-is = granted n f t-is
  read_is (Err TooManySegments) f t-is = record {
    over = ap (λ (k : ℕ). overflows dim k ps 0 cs) (sym units-is) ∙ f;
    table = let n : length u - 0 ≡ length t = omega arith in t-is ∙ ap blanks n;
  }

pub used_few : (dim : Dimension) (units : ℕ) (ps : List Point) (cs : List Contour) (t u : List Segment) (r : Result ℕ BuildFault) (d n : ℕ) →
    Filled dim units ps cs t u r → n ≡ result_unwrap_or r d → d ≤ 1001 → n ≤ 1001
used_few dim units ps cs t u (Ok k) d n f e le = omega (arith, f.few)
used_few dim units ps cs t u (Err x) d n f e le = omega arith
