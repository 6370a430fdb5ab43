-- The builder's states are summaries of the points taken in.
use Rattle.std.proofs.Common.{◌≡◌, ℕ, ◌+◌, Bool, true, false, cond, not, ◌&&◌, eqb, ltb, List, [], ◌∷◌, ◌++◌, map, length, Some, None, fold, Option, sym, refl, ap, ◌∙◌, arith}
use Rattle.std.proofs.lemmas.List.{map-append, length-map}
use Rattle.std.proofs.lemmas.Int.{ints}
use Rattle.std.proofs.lemmas.Bool.Decides.{nat_tests}
use Rattle.std.specs.Option.{option_map, option_to_list}
use Rattle.outline.specs.Directions.{same}
use Rattle.outline.specs.declared.points.Point.{Point}
use Rattle.segments.specs.declared.measures.AxisPoint.{AxisPoint}
use Rattle.segments.specs.declared.measures.Dimension.{Dimension}
use Rattle.segments.specs.declared.measures.Position.{Position}
use Rattle.segments.specs.declared.states.State.{State}
use Rattle.segments.specs.Building.{Visit, Built, room_with, done_with, latest_with, follow, visited, walked, segs_of, visits_of, lone_built, built_of}
use Rattle.segments.specs.Closing.{joins, merged_into}
use Rattle.segments.specs.Measures.{seen, lesser, greater}
use Rattle.segments.specs.Starts.{on}
use Rattle.segments.specs.Segments.{segment_of}
use Rattle.segments.specs.States.{opened, taken, merged}
use Rattle.segments.specs.Stretches.{Taken, lone, more, first_of, last_of, both, least_of, greatest_of, height_of, Stretch, plain, unite, summary, Went, went, Course, touches, unite_with, earlier, newest, onward, coursed, setting_out, lone_course, course, course_of, stretches_of, segments_of, most_of, shifted}
use Rattle.segments.specs.Walks.{Moved, moved}

lesser_assoc : (a b c : Position) → lesser (lesser a b) c ≡ lesser a (lesser b c)
lesser_assoc a b c = grind (arith, ints)

greater_assoc : (a b c : Position) → greater (greater a b) c ≡ greater a (greater b c)
greater_assoc a b c = grind (arith, ints)

least-both : (t u : Taken) → least_of (both t u) ≡ lesser (least_of t) (least_of u)
least-both t (lone v) = refl
least-both t (more u v) =
    ap (λ (x : Position). lesser x v.point.position) (least-both t u)
    ∙ lesser_assoc (least_of t) (least_of u) v.point.position

greatest-both : (t u : Taken) → greatest_of (both t u) ≡ greater (greatest_of t) (greatest_of u)
greatest-both t (lone v) = refl
greatest-both t (more u v) =
    ap (λ (x : Position). greater x v.point.position) (greatest-both t u)
    ∙ greater_assoc (greatest_of t) (greatest_of u) v.point.position

pub last-both : (t u : Taken) → last_of (both t u) ≡ last_of u
last-both t (lone v) = refl
last-both t (more u v) = refl

list_through : {X Y : Type 0} (f : X → Y) (o : Option X) → option_to_list (option_map f o) ≡ map f (option_to_list o)
list_through f None = refl
list_through f (Some x) = refl

shift_eqb : (b x y : ℕ) → eqb (b + x) (b + y) ≡ eqb x y
shift_eqb b x y = grind (arith, nat_tests)

module _ (dim : Dimension) (base : ℕ) where
  abbrev S : Stretch → State
  S s = summary base s

  abbrev pub SP : Taken → State
  SP t = summary base (plain t)

  abbrev pub move_of : Went → Moved
  move_of w = record { closed = option_map SP w.closed; opens = w.opens; walk = option_map SP w.inside }

  abbrev pub built_by : Course → Built
  built_by c = record { walk = option_map SP c.inside; done = map S c.done; latest = option_map S c.latest; room = c.room }

  met_is : (j : Bool) (closed : Option Taken) (v : Visit) →
      cond j (record { closed = option_map SP closed; opens = true; walk = Some (opened (base + v.at) v.point) })
      (record { closed = option_map SP closed; opens = false; walk = None })
      ≡ move_of (cond j (record { closed = closed; opens = true; inside = Some (lone v) }) (record { closed = closed; opens = false; inside = None }))
  met_is true closed v = refl
  met_is false closed v = refl

  in_is : (j : Bool) (t : Taken) (v : Visit) (m : Moved) (w : Went) → m ≡ move_of w →
      cond j (record { closed = None; opens = false; walk = Some (taken (SP t) (base + v.at) v.point) }) m
      ≡ move_of (cond j (record { closed = None; opens = false; inside = Some (more t v) }) w)
  in_is true t v m w e = refl
  in_is false t v m w e = e

  pub moved_is : (o : Option Taken) (v : Visit) → moved dim (option_map SP o) (base + v.at) v.point v.ends ≡ move_of (went dim o v)
  moved_is None v = met_is (on dim v.point && not v.ends) None v
  moved_is (Some t) v =
      in_is (same v.point.out_dir (first_of t).point.out_dir && not v.ends) t v _ _
      (met_is (on dim v.point && not v.ends) (Some (more t v)) v)

  joins_is : (latest : Option Stretch) (t : Taken) → joins (option_map S latest) (SP t) ≡ touches latest t
  joins_is None t = refl
  joins_is (Some e) t = shift_eqb base (last_of e.all).at (first_of t).at

  merged_by : (j : Bool) (a b : Stretch) →
      ◌≡◌ {A = State} (record {
        dir = (cond j (S a) (S b)).dir;
        first = (cond j (S a) (S b)).first;
        last = (S b).last;
        least = lesser (S a).least (S b).least;
        greatest = greater (S a).greatest (S b).greatest;
        low = (cond j (S a) (S b)).low;
        high = (cond j (S a) (S b)).high;
        reach = (cond j (S a) (S b)).reach;
      })
      (S (record { own = cond j a.own b.own; all = both a.all b.all }))
  merged_by true a b =
      let p = least-both a.all b.all in let q = greatest-both a.all b.all in let r = last-both a.all b.all in cc
  merged_by false a b =
      let p = least-both a.all b.all in let q = greatest-both a.all b.all in let r = last-both a.all b.all in cc

  merged_is : (a b : Stretch) → merged (S a) (S b) ≡ S (unite a b)
  merged_is a b = merged_by (ltb (height_of b.own) (height_of a.own)) a b

  into_is : (latest : Option Stretch) (t : Taken) → merged_into (option_map S latest) (SP t) ≡ S (unite_with latest t)
  into_is None t = refl
  into_is (Some e) t = merged_is e (plain t)

  done_by : (j : Bool) (done : List Stretch) (latest : Option Stretch) →
      cond j (map S done) (map S done ++ option_to_list (option_map S latest)) ≡ map S (cond j done (done ++ option_to_list latest))
  done_by true done latest = refl
  done_by false done latest = ap (λ (r : List State). map S done ++ r) (list_through S latest) ∙ sym (map-append S done (option_to_list latest))

  done_is : (done : List Stretch) (latest : Option Stretch) (closed : Option Taken) →
      done_with (map S done) (option_map S latest) (option_map SP closed) ≡ map S (earlier done latest closed)
  done_is done latest None = refl
  done_is done latest (Some t) =
      ap (λ (j : Bool). cond j (map S done) (map S done ++ option_to_list (option_map S latest))) (joins_is latest t) ∙ done_by (touches latest t) done latest

  latest_by : (j : Bool) (latest : Option Stretch) (t : Taken) →
      cond j (merged_into (option_map S latest) (SP t)) (SP t) ≡ S (cond j (unite_with latest t) (plain t))
  latest_by true latest t = into_is latest t
  latest_by false latest t = refl

  latest_is : (latest : Option Stretch) (closed : Option Taken) →
      latest_with (option_map S latest) (option_map SP closed) ≡ option_map S (newest latest closed)
  latest_is latest None = refl
  latest_is latest (Some t) =
      ap (λ (j : Bool). Some (cond j (merged_into (option_map S latest) (SP t)) (SP t))) (joins_is latest t)
      ∙ ap (λ (s : State). Some s) (latest_by (touches latest t) latest t)

  pub segs_is : (done : List Stretch) (latest : Option Stretch) → map S done ++ option_to_list (option_map S latest) ≡ map S (done ++ option_to_list latest)
  segs_is done latest = ap (λ (r : List State). map S done ++ r) (list_through S latest) ∙ sym (map-append S done (option_to_list latest))

  follow_is : (c : Course) (w : Went) → follow (built_by c) (move_of w) ≡ built_by (onward c w)
  follow_is c w =
      let d = done_is c.done c.latest w.closed in
      let l = latest_is c.latest w.closed in
      let n : length (done_with (map S c.done) (option_map S c.latest) (option_map SP w.closed) ++ option_to_list (latest_with (option_map S c.latest) (option_map SP w.closed)))
      ≡ length (earlier c.done c.latest w.closed ++ option_to_list (newest c.latest w.closed))
      = ap (λ (r : List State). length (r ++ option_to_list (latest_with (option_map S c.latest) (option_map SP w.closed)))) d
      ∙ ap (λ (o : Option State). length (map S (earlier c.done c.latest w.closed) ++ option_to_list o)) l
      ∙ ap length (segs_is (earlier c.done c.latest w.closed) (newest c.latest w.closed))
      ∙ length-map (earlier c.done c.latest w.closed ++ option_to_list (newest c.latest w.closed)) S in
      let r = ap (room_with c.room w.opens) n in
      cc

  visited_is : (c : Course) (v : Visit) → visited dim base (built_by c) v ≡ built_by (coursed dim c v)
  visited_is c v = ap (follow (built_by c)) (moved_is c.inside v) ∙ follow_is c (went dim c.inside v)

  folded_is : (c : Course) (vs : List Visit) → fold (visited dim base) (built_by c) vs ≡ built_by (fold (coursed dim) c vs)
  folded_is c [] = refl
  folded_is c (v ∷ vs) =
      ap (λ (b : Built). fold (visited dim base) b vs) (visited_is c v) ∙ folded_is (coursed dim c v) vs

  pub walked_is : (vs : List Visit) → walked dim base vs ≡ built_by (course dim vs)
  unfolding walked course
  walked_is vs = folded_is setting_out vs

  one_is : (p : AxisPoint) → lone_built base p ≡ built_by (lone_course p)
  one_is p = let e : base ≡ base + 0 = omega arith in ap (λ (n : ℕ). lone_built n p) e

  pub built_is : (ps : List AxisPoint) → built_of dim base ps ≡ built_by (course_of dim ps)
  built_is [] = refl
  built_is (p ∷ []) = one_is p
  built_is (p ∷ q ∷ ps) = walked_is (visits_of dim (p ∷ q ∷ ps))

  entry_is : (units : ℕ) (s : Stretch) → segment_of units (S s) ≡ shifted base (segment_of units (summary 0 s))
  entry_is units s =
      let a : base + (first_of s.own).at ≡ base + (0 + (first_of s.own).at) = omega arith in
      let b : base + (last_of s.all).at ≡ base + (0 + (last_of s.all).at) = omega arith in
      cc

  entries_is : (units : ℕ) (ss : List Stretch) →
      map (segment_of units) (map S ss) ≡ map (shifted base) (map (λ s. segment_of units (summary 0 s)) ss)
  entries_is units [] = refl
  entries_is units (s ∷ ss) = let h = entry_is units s in let r = entries_is units ss in cc

  pub segments_is : (units : ℕ) (ps : List Point) →
      map (segment_of units) (segs_of (built_of dim base (map (seen dim) ps))) ≡ map (shifted base) (segments_of dim units ps)
  unfolding segments_of
  segments_is units ps =
      ap (λ (b : Built). map (segment_of units) (segs_of b)) (built_is (map (seen dim) ps))
      ∙ ap (map (segment_of units)) (segs_is (course_of dim (map (seen dim) ps)).done (course_of dim (map (seen dim) ps)).latest)
      ∙ entries_is units (stretches_of (course_of dim (map (seen dim) ps)))

  pub most_is : (ps : List Point) → (built_of dim base (map (seen dim) ps)).room ≡ most_of dim ps
  unfolding most_of
  most_is ps = ap (λ (b : Built). b.room) (built_is (map (seen dim) ps))
