-- The walk falls into rows.
use Rattle.std.proofs.Common.{◌≡◌, ℕ, ◌+◌, ◌<◌, Bool, true, false, cond, not, ◌&&◌, List, [], ◌∷◌, ◌++◌, map, length, get_or, take, drop, Some, None, fold, filter, Option, sym, refl, ap, ◌∙◌, subst, append_assoc, arith}
use Rattle.std.specs.Option.{option_to_list}
use Rattle.std.specs.List.{AllByRecursion}
use Rattle.std.proofs.Math.Bool.{and-true}
use Rattle.std.proofs.ByRecursion.{All-append, All-push, All-take, All-drop}
use Rattle.std.proofs.lemmas.List.{append-nil, drop_more}
use Rattle.std.proofs.lemmas.Bool.{both_ways, and_left, and_right, and_parts, not_from_true}
use Rattle.outline.specs.Directions.{same}
use Rattle.outline.proofs.Same.{same_means, means_same}
use Rattle.outline.specs.declared.directions.Direction.{Direction}
use Rattle.segments.specs.declared.measures.AxisPoint.{AxisPoint}
use Rattle.segments.specs.declared.measures.Dimension.{Dimension}
use Rattle.segments.specs.Building.{Visit, numbered, ending, once_round, visits_of}
use Rattle.segments.specs.Measures.{on_line}
use Rattle.segments.specs.Rows.{visits_in, front, fronts, heading, goes, Row, ContoursFall}
use Rattle.segments.specs.Starts.{on, start_of, Last}
use Rattle.segments.specs.Stretches.{Taken, lone, more, last_of, Stretch, Went, enters, went, Course, earlier, newest, coursed, setting_out, course, stretches_of}
use Rattle.segments.proofs.Runs.{starts_in}
use Rattle.segments.proofs.Visits.{length-numbered}
use Rattle.segments.proofs.Merges.{Placed, placed-more, Sorted, placed-all}

last_push : (P : Visit → Type 0) (vs : List Visit) (v : Visit) → P v → Last P (vs ++ v ∷ [])
last_push P [] v h = h
last_push P (u ∷ []) v h = h
last_push P (u ∷ w ∷ vs) v h = last_push P (w ∷ vs) v h

last_weaker : (P Q : Visit → Type 0) → ((v : Visit) → P v → Q v) → (vs : List Visit) → Last P vs → Last Q vs
last_weaker P Q f [] h = tt
last_weaker P Q f (v ∷ []) h = f v h
last_weaker P Q f (v ∷ w ∷ vs) h = last_weaker P Q f (w ∷ vs) h

last_in : (P : Visit → Type 0) (vs : List Visit) (t : Taken) → P (last_of t) → Last P (vs ++ visits_in t)
last_in P vs (lone v) h = last_push P vs v h
last_in P vs (more t v) h = subst (Last P) (append_assoc vs (visits_in t) (v ∷ [])) (last_push P (vs ++ visits_in t) v h)

all-last : (P : Visit → Type 0) (t : Taken) → AllByRecursion P (visits_in t) → P (last_of t)
all-last P (lone v) h = h.0
all-last P (more t v) h = end (visits_in t) h
  where
    end : (vs : List Visit) → AllByRecursion P (vs ++ v ∷ []) → P v
    end [] k = k.0
    end (u ∷ vs) k = end vs k.1

kept_split : (b : Bool) (v : Visit) (vs : List Visit) → cond b (v ∷ vs) vs ≡ cond b (v ∷ []) [] ++ vs
kept_split true v vs = refl
kept_split false v vs = refl

fronts-append : (ts us : List Taken) → fronts (ts ++ us) ≡ fronts ts ++ fronts us
fronts-append [] us = refl
fronts-append (t ∷ ts) us = ap (λ (r : List Visit). front t ++ r) (fronts-append ts us) ∙ sym (append_assoc (front t) (fronts ts) (fronts us))

-- the rows that close from here on
abbrev rows_from : Dimension → Option Taken → List Visit → List Taken
rows_from dim o [] = []
rows_from dim o (v ∷ vs) = option_to_list (went dim o v).closed ++ rows_from dim (went dim o v).inside vs

module _ (dim : Dimension) (vs : List Visit) where
  -- the points of the open row
  abbrev open_visits : Option Taken → List Visit
  open_visits None = []
  open_visits (Some t) = visits_in t

  record Open (pre : List Visit) (t : Taken) : Type 0 where
    before : List Visit
    along : pre ≡ before ++ visits_in t
    starts : Last (λ v. v.point.out_dir ≡ heading t → ⊥) before
    runs : AllByRecursion (λ v. (goes dim v ≡ true) × (v.point.out_dir ≡ heading t)) (visits_in t)
    line : on_line dim (heading t) ≡ true

  -- what is known after the points pre: outside a segment the last was off the line
  abbrev Came : List Visit → Option Taken → Type 0
  Came pre None = Last (λ v. on dim v.point ≡ false) pre
  Came pre (Some t) = Open pre t

  record Step (pre : List Visit) (o : Option Taken) (v : Visit) (w : Went) : Type 0 where
    comes : Came (pre ++ v ∷ []) w.inside
    shuts : AllByRecursion (Row dim vs) (option_to_list w.closed)
    holds : open_visits o ++ cond (goes dim v) (v ∷ []) [] ≡ fronts (option_to_list w.closed) ++ open_visits w.inside

  module _ (pre post : List Visit) (v : Visit) (vs-is : vs ≡ pre ++ v ∷ post) where
    abbrev dir : Direction
    dir = v.point.out_dir

    opens_row : Last (λ u. u.point.out_dir ≡ v.point.out_dir → ⊥) pre → goes dim v ≡ true → on dim v.point ≡ true → Open (pre ++ v ∷ []) (lone v)
    opens_row h g l = record { before = pre; along = refl; starts = h; runs = ((g, refl), tt); line = l }

    closes_row : (t : Taken) → Open pre t → (same v.point.out_dir (heading t) && not v.ends) ≡ false → Row dim vs (more t v)
    closes_row t o shut = record {
      before = o.before;
      after = post;
      along =
          vs-is
          ∙ ap (λ (r : List Visit). r ++ v ∷ post) o.along
          ∙ append_assoc o.before (visits_in t) (v ∷ post)
          ∙ ap (λ (r : List Visit). o.before ++ r) (sym (append_assoc (visits_in t) (v ∷ []) post));
      starts = o.starts;
      runs = o.runs;
      shuts = shut;
    }

    goes_on : (t : Taken) → Open pre t → v.point.out_dir ≡ heading t → goes dim v ≡ true → Open (pre ++ v ∷ []) (more t v)
    goes_on t o d g = record {
      before = o.before;
      along = ap (λ (r : List Visit). r ++ v ∷ []) o.along ∙ append_assoc o.before (visits_in t) (v ∷ []);
      starts = o.starts;
      runs = All-push (λ u. (goes dim u ≡ true) × (u.point.out_dir ≡ heading t)) (visits_in t) v o.runs (g, d);
      line = o.line;
    }

    -- between segments
    enters_none : (j : Bool) → goes dim v ≡ j → (on dim v.point ≡ j) → Last (λ u. on dim u.point ≡ false) pre →
        Step pre None v (cond j (record { closed = None; opens = true; inside = Some (lone v) }) (record { closed = None; opens = false; inside = None }))
    enters_none true g l h = record {
      comes = opens_row
          (last_weaker (λ u. on dim u.point ≡ false) (λ u. u.point.out_dir ≡ v.point.out_dir → ⊥)
          (λ u off. λ e. both_ways (on dim u.point) off (ap (on_line dim) e ∙ l)) pre h) g l;
      shuts = tt;
      holds = ap (λ (b : Bool). cond b (v ∷ []) []) g;
    }
    enters_none false g l h = record {
      comes = last_push (λ u. on dim u.point ≡ false) pre v l;
      shuts = tt;
      holds = ap (λ (b : Bool). cond b (v ∷ []) []) g;
    }

    -- after a row that closes
    enters_some : (j : Bool) (t : Taken) → goes dim v ≡ j → on dim v.point ≡ j → Open pre t → same v.point.out_dir (heading t) ≡ false →
        Step pre (Some t) v (cond j (record { closed = Some (more t v); opens = true; inside = Some (lone v) }) (record { closed = Some (more t v); opens = false; inside = None }))
    enters_some true t g l o shut = record {
      comes = opens_row
          (subst (Last (λ u. u.point.out_dir ≡ v.point.out_dir → ⊥)) (sym o.along)
          (last_in (λ u. u.point.out_dir ≡ v.point.out_dir → ⊥) o.before t
          (λ e. both_ways (same v.point.out_dir (heading t)) shut
          (means_same v.point.out_dir (heading t)
          (sym e ∙ (all-last (λ u. (goes dim u ≡ true) × (u.point.out_dir ≡ heading t)) t o.runs).1))))) g l;
      shuts = (closes_row t o (and_left (same v.point.out_dir (heading t)) (not v.ends) shut), tt);
      holds = ap (λ (b : Bool). visits_in t ++ cond b (v ∷ []) []) g ∙ ap (λ (r : List Visit). r ++ v ∷ []) (sym (append-nil (visits_in t)));
    }
    enters_some false t g l o shut = record {
      comes = last_push (λ u. on dim u.point ≡ false) pre v l;
      shuts = (closes_row t o (and_left (same v.point.out_dir (heading t)) (not v.ends) shut), tt);
      holds = ap (λ (b : Bool). visits_in t ++ cond b (v ∷ []) []) g ∙ sym (append-nil (visits_in t ++ []));
    }

    goes_is : v.ends ≡ false → on dim v.point ≡ goes dim v
    goes_is e = sym (ap (λ (b : Bool). on dim v.point && not b) e ∙ and-true (on dim v.point))

    -- inside a segment
    inside_by : (j : Bool) (t : Taken) → (same v.point.out_dir (heading t) && not v.ends) ≡ j → v.ends ≡ false → Open pre t →
        Step pre (Some t) v (cond j (record { closed = None; opens = false; inside = Some (more t v) }) (enters dim (Some (more t v)) v))
    inside_by true t s e o =
        let d : v.point.out_dir ≡ heading t
        = same_means v.point.out_dir (heading t) (and_parts (same v.point.out_dir (heading t)) (not v.ends) s).0 in
        let g : goes dim v ≡ true = sym (goes_is e) ∙ ap (on_line dim) d ∙ o.line in
        record {
          comes = goes_on t o d g;
          shuts = tt;
          holds = ap (λ (b : Bool). visits_in t ++ cond b (v ∷ []) []) g;
        }
    inside_by false t s e o =
        enters_some (goes dim v) t refl (goes_is e) o
        (sym (and-true (same v.point.out_dir (heading t))) ∙ ap (λ (b : Bool). same v.point.out_dir (heading t) && not b) (sym e) ∙ s)

    -- a point at which the walk does not end
    steps : (o : Option Taken) → v.ends ≡ false → Came pre o → Step pre o v (went dim o v)
    steps None e c = enters_none (goes dim v) refl (goes_is e) c
    steps (Some t) e c = inside_by (same v.point.out_dir (heading t) && not v.ends) t refl e c

    -- the point at which it ends
    record End (o : Option Taken) (w : Went) : Type 0 where
      shuts : AllByRecursion (Row dim vs) (option_to_list w.closed)
      holds : open_visits o ++ cond (goes dim v) (v ∷ []) [] ≡ fronts (option_to_list w.closed)

    not_going : v.ends ≡ true → goes dim v ≡ false
    not_going e = and_right (on dim v.point) (not v.ends) (not_from_true v.ends e)

    ends_by : (j : Bool) (o : Option Taken) (closed : Option Taken) → goes dim v ≡ j → j ≡ false → AllByRecursion (Row dim vs) (option_to_list closed) →
        open_visits o ++ [] ≡ fronts (option_to_list closed) →
        End o (cond j (record { closed = closed; opens = true; inside = Some (lone v) }) (record { closed = closed; opens = false; inside = None }))
    ends_by true o closed g f h e = absurd (both_ways true f refl)
    ends_by false o closed g f h e = record { shuts = h; holds = ap (λ (b : Bool). open_visits o ++ cond b (v ∷ []) []) g ∙ e }

    ends-inside : (j : Bool) (t : Taken) → (same v.point.out_dir (heading t) && not v.ends) ≡ j → j ≡ false → v.ends ≡ true → Open pre t →
        End (Some t) (cond j (record { closed = None; opens = false; inside = Some (more t v) }) (enters dim (Some (more t v)) v))
    ends-inside true t s f e o = absurd (both_ways true f refl)
    ends-inside false t s f e o = ends_by (goes dim v) (Some t) (Some (more t v)) refl (not_going e) (closes_row t o s, tt) refl

    ends-row : (o : Option Taken) → v.ends ≡ true → Came pre o → End o (went dim o v)
    ends-row None e c = ends_by (goes dim v) None None refl (not_going e) tt refl
    ends-row (Some t) e c =
        ends-inside (same v.point.out_dir (heading t) && not v.ends) t refl
        (and_right (same v.point.out_dir (heading t)) (not v.ends) (not_from_true v.ends e)) e c

  -- from here on: the points of the open row and those on the line are in the rows that close
  record Told (o : Option Taken) (us : List Visit) : Type 0 where
    rows : AllByRecursion (Row dim vs) (rows_from dim o us)
    holds : open_visits o ++ filter (goes dim) us ≡ fronts (rows_from dim o us)

  rows_told : (pre init : List Visit) (last : Visit) (o : Option Taken) → vs ≡ pre ++ (init ++ last ∷ []) →
      AllByRecursion (λ v. v.ends ≡ false) init → last.ends ≡ true → Came pre o → Told o (init ++ last ∷ [])
  rows_told pre [] last o e a f c =
      let w : End pre [] last e o (went dim o last) = ends-row pre [] last e o f c in
      record {
        rows = All-append (Row dim vs) (option_to_list (went dim o last).closed) [] w.shuts tt;
        holds = w.holds ∙ ap fronts (sym (append-nil (option_to_list (went dim o last).closed)));
      }
  rows_told pre (v ∷ init) last o e a f c =
      let w : Step pre o v (went dim o v) = steps pre (init ++ last ∷ []) v e o a.0 c in
      let r : Told (went dim o v).inside (init ++ last ∷ [])
      = rows_told (pre ++ v ∷ []) init last (went dim o v).inside (e ∙ sym (append_assoc pre (v ∷ []) (init ++ last ∷ []))) a.1 f w.comes in
      record {
        rows = All-append (Row dim vs) (option_to_list (went dim o v).closed) (rows_from dim (went dim o v).inside (init ++ last ∷ [])) w.shuts r.rows;
        holds =
            ap (λ (k : List Visit). open_visits o ++ k) (kept_split (goes dim v) v (filter (goes dim) (init ++ last ∷ [])))
            ∙ sym (append_assoc (open_visits o) (cond (goes dim v) (v ∷ []) []) (filter (goes dim) (init ++ last ∷ [])))
            ∙ ap (λ (k : List Visit). k ++ filter (goes dim) (init ++ last ∷ [])) w.holds
            ∙ append_assoc (fronts (option_to_list (went dim o v).closed)) (open_visits (went dim o v).inside) (filter (goes dim) (init ++ last ∷ []))
            ∙ ap (λ (k : List Visit). fronts (option_to_list (went dim o v).closed) ++ k) r.holds
            ∙ sym (fronts-append (option_to_list (went dim o v).closed) (rows_from dim (went dim o v).inside (init ++ last ∷ [])));
      }

-- the rows are placed one after another
module _ (dim : Dimension) where
  places-one : (ts : List Taken) (done : List Stretch) (latest : Option Stretch) (closed : Option Taken) → Placed ts done latest →
      Placed (ts ++ option_to_list closed) (earlier done latest closed) (newest latest closed)
  places-one ts done latest None p = subst (λ (r : List Taken). Placed r done latest) (sym (append-nil ts)) p
  places-one ts done latest (Some t) p = placed-more ts done latest t p

  places : (c : Course) (vs : List Visit) (ts : List Taken) → Placed ts c.done c.latest →
      Placed (ts ++ rows_from dim c.inside vs) (fold (coursed dim) c vs).done (fold (coursed dim) c vs).latest
  places c [] ts p = subst (λ (r : List Taken). Placed r c.done c.latest) (sym (append-nil ts)) p
  places c (v ∷ vs) ts p =
      subst (λ (r : List Taken). Placed r (fold (coursed dim) c (v ∷ vs)).done (fold (coursed dim) c (v ∷ vs)).latest)
      (append_assoc ts (option_to_list (went dim c.inside v).closed) (rows_from dim (went dim c.inside v).inside vs))
      (places (coursed dim c v) vs (ts ++ option_to_list (went dim c.inside v).closed)
      (places-one ts c.done c.latest (went dim c.inside v).closed p))

  course_sorted : (vs : List Visit) → Sorted (rows_from dim None vs) (stretches_of (course dim vs))
  unfolding course
  course_sorted vs =
      placed-all (rows_from dim None vs) (fold (coursed dim) setting_out vs).done (fold (coursed dim) setting_out vs).latest
      (places setting_out vs [] (refl, refl))

-- the walk goes on until it is back where it began
none-ends : (i : ℕ) (ps : List AxisPoint) → AllByRecursion (λ v. v.ends ≡ false) (numbered i ps)
none-ends i [] = tt
none-ends i (p ∷ ps) = (refl, none-ends (i + 1) ps)

round_is : (s : ℕ) (vs : List Visit) (d : Visit) → s < length vs → once_round s vs ≡ (drop s vs ++ take s vs) ++ ending (get_or vs s d) ∷ []
round_is s vs d lt =
    ap (λ (r : List Visit). drop s vs ++ (take s vs ++ map ending (take 1 r))) (drop_more vs s d lt)
    ∙ sym (append_assoc (drop s vs) (take s vs) (ending (get_or vs s d) ∷ []))

pub contours_fall : ContoursFall
contours_fall dim p q ps =
    let ns : List Visit = numbered 0 (p ∷ q ∷ ps) in
    let s : ℕ = start_of dim (p ∷ q ∷ ps) in
    let d : Visit = record { at = 0; point = p; ends = false } in
    let lt : start_of dim (p ∷ q ∷ ps) < length (numbered 0 (p ∷ q ∷ ps))
    = omega (arith, starts_in dim (p ∷ q ∷ ps) (omega arith), length-numbered 0 (p ∷ q ∷ ps)) in
    let init : List Visit = drop s ns ++ take s ns in
    let whole : visits_of dim (p ∷ q ∷ ps) ≡ init ++ ending (get_or ns s d) ∷ [] = round_is s ns d lt in
    let told : Told dim (visits_of dim (p ∷ q ∷ ps)) None (init ++ ending (get_or ns s d) ∷ [])
    = rows_told dim (visits_of dim (p ∷ q ∷ ps)) [] init (ending (get_or ns s d)) None whole
    (All-append (λ v. v.ends ≡ false) (drop s ns) (take s ns) (All-drop (λ v. v.ends ≡ false) s ns (none-ends 0 (p ∷ q ∷ ps))) (All-take (λ v. v.ends ≡ false) s ns (none-ends 0 (p ∷ q ∷ ps))))
    refl tt in
    let all : Told dim (visits_of dim (p ∷ q ∷ ps)) None (visits_of dim (p ∷ q ∷ ps)) = subst (Told dim (visits_of dim (p ∷ q ∷ ps)) None) (sym whole) told in
    let sorted = course_sorted dim (visits_of dim (p ∷ q ∷ ps)) in
    record {
      groups = sorted.groups;
      rows = subst (AllByRecursion (Row dim (visits_of dim (p ∷ q ∷ ps)))) (sym sorted.rows) all.rows;
      covers = ap fronts sorted.rows ∙ sym all.holds;
      merged = sorted.merged;
      apart = sorted.apart;
    }
