-- Least and greatest in the order's sense, and who gave them first.
use Rattle.std.proofs.Common.{◌≡◌, ℕ, ◌/◌, ◌<◌, Bool, true, false, cond, not, ◌||◌, List, [], ◌∷◌, ◌++◌, ℤ, pos, ◌-ℤ◌, nat_abs, ◌≤ℤ◌, ◌<ℤ◌, Some, None, Decides, filter, Option, sym, refl, ap, ◌∙◌, subst, append_assoc, arith}
use lib.Signed.{lt_z}
use Rattle.std.specs.Int.{int_min, int_max}
use Rattle.std.specs.List.{AllByRecursion}
use Rattle.std.proofs.lemmas.List.Elements.{filter-append}
use Rattle.std.proofs.ByRecursion.{All-push, All-weaker, all-has, has_append_left, has_push}
use Rattle.std.proofs.lemmas.List.{map_push, map-append, append-nil}
use Rattle.std.proofs.lemmas.Int.{ints}
use Rattle.std.proofs.lemmas.Bool.{ltb-true, lt-ltb}
use Rattle.std.proofs.lemmas.Bool.Decides.{Decides-and, Decides-or}
use Rattle.outline.specs.declared.points.PointKind.{PointKind}
use Rattle.outline.specs.declared.points.PointKind.TheVariants.{Control, OnCurve}
use Rattle.segments.specs.declared.measures.AxisPoint.{AxisPoint}
use Rattle.segments.specs.declared.states.Mark.{Mark}
use Rattle.segments.specs.declared.states.Reach.{Reach}
use Rattle.segments.specs.States.{mark_of, control, reach_with, on_reach, short}
use Rattle.segments.specs.Stretches.{Taken, lone, more, least_of, greatest_of, low_of, high_of, reach_of}
use Rattle.segments.specs.Told.{points_in, positions, coordinates, on_curve, curve, Least, Greatest, First, Close, SegmentsTold}

-- a picked element has what each candidate has
picks : {X : Type 0} (P : X → Type 0) (j : Bool) (a b : X) → (j ≡ true → P a) → (j ≡ false → P b) → P (cond j a b)
picks P true a b h k = h refl
picks P false a b h k = k refl

least_push : (m z : ℤ) (zs : List ℤ) → Least m zs → Least (int_min m z) (zs ++ z ∷ [])
least_push m z zs l =
    picks (λ r. Least r (zs ++ z ∷ [])) (lt_z z m) z m
    (λ e. let lt : z ≤ℤ m = grind (arith, ints) in
    (has_push zs z, All-push (λ y. z ≤ℤ y) zs z (All-weaker (λ y. m ≤ℤ y) (λ y. z ≤ℤ y) (λ y h. omega (arith, ints)) zs l.1) (omega (arith, ints))))
    (λ e. let le : m ≤ℤ z = grind (arith, ints) in (has_append_left zs (z ∷ []) m l.0, All-push (λ y. m ≤ℤ y) zs z l.1 le))

greatest_push : (m z : ℤ) (zs : List ℤ) → Greatest m zs → Greatest (int_max m z) (zs ++ z ∷ [])
greatest_push m z zs g =
    picks (λ r. Greatest r (zs ++ z ∷ [])) (lt_z z m) m z
    (λ e. let lt : z ≤ℤ m = grind (arith, ints) in (has_append_left zs (z ∷ []) m g.0, All-push (λ y. y ≤ℤ m) zs z g.1 lt))
    (λ e. let le : m ≤ℤ z = grind (arith, ints) in
    (has_push zs z, All-push (λ y. y ≤ℤ z) zs z (All-weaker (λ y. y ≤ℤ m) (λ y. y ≤ℤ z) (λ y h. omega (arith, ints)) zs g.1) (omega (arith, ints))))

one-least : (z : ℤ) → Least z (z ∷ [])
one-least z = (has_push [] z, (omega (arith, ints), tt))

one-greatest : (z : ℤ) → Greatest z (z ∷ [])
one-greatest z = (has_push [] z, (omega (arith, ints), tt))

-- positions
least-told : (t : Taken) → Least (least_of t).0 (positions (points_in t))
least-told (lone v) = one-least v.point.position.0
least-told (more t v) =
    subst (Least (least_of (more t v)).0) (sym (map_push (λ (p : AxisPoint). p.position.0) (points_in t) v.point))
    (least_push (least_of t).0 v.point.position.0 (positions (points_in t)) (least-told t))

greatest-told : (t : Taken) → Greatest (greatest_of t).0 (positions (points_in t))
greatest-told (lone v) = one-greatest v.point.position.0
greatest-told (more t v) =
    subst (Greatest (greatest_of (more t v)).0) (sym (map_push (λ (p : AxisPoint). p.position.0) (points_in t) v.point))
    (greatest_push (greatest_of t).0 v.point.position.0 (positions (points_in t)) (greatest-told t))

-- coordinates, each with the point that first gave it
at_cond : {X Y : Type 0} (f : X → Y) (j : Bool) (a b : X) → f (cond j a b) ≡ cond j (f a) (f b)
at_cond f true a b = refl
at_cond f false a b = refl

low_told : (t : Taken) → Least (low_of t).at.0 (coordinates (points_in t))
low_told (lone v) = one-least v.point.coordinate.0
low_told (more t v) =
    subst (λ (m : ℤ). Least m (coordinates (points_in (more t v))))
    (sym (at_cond (λ (k : Mark). k.at.0) (lt_z v.point.coordinate.0 (low_of t).at.0) (mark_of v.point) (low_of t)))
    (subst (Least (int_min (low_of t).at.0 v.point.coordinate.0)) (sym (map_push (λ (p : AxisPoint). p.coordinate.0) (points_in t) v.point))
    (least_push (low_of t).at.0 v.point.coordinate.0 (coordinates (points_in t)) (low_told t)))

higher : (m z : ℤ) → int_max m z ≡ cond (lt_z m z) z m
higher m z = grind (arith, ints)

high-told : (t : Taken) → Greatest (high_of t).at.0 (coordinates (points_in t))
high-told (lone v) = one-greatest v.point.coordinate.0
high-told (more t v) =
    subst (λ (m : ℤ). Greatest m (coordinates (points_in (more t v))))
    (higher (high_of t).at.0 v.point.coordinate.0
    ∙ sym (at_cond (λ (k : Mark). k.at.0) (lt_z (high_of t).at.0 v.point.coordinate.0) (mark_of v.point) (high_of t)))
    (subst (Greatest (int_max (high_of t).at.0 v.point.coordinate.0)) (sym (map_push (λ (p : AxisPoint). p.coordinate.0) (points_in t) v.point))
    (greatest_push (high_of t).at.0 v.point.coordinate.0 (coordinates (points_in t)) (high-told t)))

-- the first giver stays where a later point does not pass it, and is the later point where it does
abbrev Gives : Mark → List AxisPoint → Type 0
Gives m ps = First m.at.0 m.kind ps

gives_stays : (m : Mark) (p : AxisPoint) (ps : List AxisPoint) → Gives m ps → Gives m (ps ++ p ∷ [])
gives_stays m p ps g = record {
  before = g.before;
  giver = g.giver;
  after = g.after ++ p ∷ [];
  parts = ap (λ (r : List AxisPoint). r ++ p ∷ []) g.parts ∙ append_assoc g.before (g.giver ∷ g.after) (p ∷ []);
  none = g.none;
  gives = g.gives;
  kind = g.kind;
}

gives-passes : (p : AxisPoint) (ps : List AxisPoint) → AllByRecursion (λ q. q.coordinate.0 ≡ p.coordinate.0 → ⊥) ps → Gives (mark_of p) (ps ++ p ∷ [])
gives-passes p ps h = record { before = ps; giver = p; after = []; parts = refl; none = h; gives = refl; kind = refl }

coordinate_all : (P : ℤ → Type 0) (ps : List AxisPoint) → AllByRecursion P (coordinates ps) → AllByRecursion (λ q. P q.coordinate.0) ps
coordinate_all P [] h = tt
coordinate_all P (p ∷ ps) h = (h.0, coordinate_all P ps h.1)

low-gives : (t : Taken) → Gives (low_of t) (points_in t)
low-gives (lone v) = gives-passes v.point [] tt
low-gives (more t v) =
    picks (λ m. Gives m (points_in t ++ v.point ∷ [])) (lt_z v.point.coordinate.0 (low_of t).at.0) (mark_of v.point) (low_of t)
    (λ e. gives-passes v.point (points_in t)
    (All-weaker (λ q. (low_of t).at.0 ≤ℤ q.coordinate.0) (λ q. q.coordinate.0 ≡ v.point.coordinate.0 → ⊥)
    (λ q h. let lt : v.point.coordinate.0 <ℤ (low_of t).at.0 = grind (arith, ints) in λ same. omega (arith, ints))
    (points_in t) (coordinate_all (λ z. (low_of t).at.0 ≤ℤ z) (points_in t) (low_told t).1)))
    (λ e. gives_stays (low_of t) v.point (points_in t) (low-gives t))

high-gives : (t : Taken) → Gives (high_of t) (points_in t)
high-gives (lone v) = gives-passes v.point [] tt
high-gives (more t v) =
    picks (λ m. Gives m (points_in t ++ v.point ∷ [])) (lt_z (high_of t).at.0 v.point.coordinate.0) (mark_of v.point) (high_of t)
    (λ e. gives-passes v.point (points_in t)
    (All-weaker (λ q. q.coordinate.0 ≤ℤ (high_of t).at.0) (λ q. q.coordinate.0 ≡ v.point.coordinate.0 → ⊥)
    (λ q h. let lt : (high_of t).at.0 <ℤ v.point.coordinate.0 = grind (arith, ints) in λ same. omega (arith, ints))
    (points_in t) (coordinate_all (λ z. z ≤ℤ (high_of t).at.0) (points_in t) (high-told t).1)))
    (λ e. gives_stays (high_of t) v.point (points_in t) (high-gives t))

-- the points on the curve
abbrev Reached : Option Reach → List ℤ → Type 0
Reached None zs = zs ≡ []
Reached (Some r) zs = Least r.low.0 zs × Greatest r.high.0 zs

curve_push : (ps : List AxisPoint) (p : AxisPoint) → curve (ps ++ p ∷ []) ≡ curve ps ++ coordinates (cond (on_curve p) (p ∷ []) [])
curve_push ps p =
    ap coordinates (filter-append on_curve ps (p ∷ []))
    ∙ map-append (λ (q : AxisPoint). q.coordinate.0) (filter on_curve ps) (cond (on_curve p) (p ∷ []) [])

reach_push : (r : Option Reach) (p : AxisPoint) (zs : List ℤ) → Reached r zs → Reached (on_reach r p) (zs ++ coordinates (cond (on_curve p) (p ∷ []) []))
reach_push r p zs h = go p.kind
  where
    with_point : (r : Option Reach) → Reached r zs → Reached (Some (reach_with r p)) (zs ++ p.coordinate.0 ∷ [])
    with_point None e =
        subst (λ (ys : List ℤ). Reached (Some (reach_with None p)) (ys ++ p.coordinate.0 ∷ [])) (sym e)
        (one-least p.coordinate.0, one-greatest p.coordinate.0)
    with_point (Some k) e = (least_push k.low.0 p.coordinate.0 zs e.0, greatest_push k.high.0 p.coordinate.0 zs e.1)

    go : (k : PointKind) → Reached (cond (control k) r (Some (reach_with r p))) (zs ++ coordinates (cond (not (control k)) (p ∷ []) []))
    go Control = subst (Reached r) (sym (append-nil zs)) h
    go OnCurve = with_point r h

reached : (t : Taken) → Reached (reach_of t) (curve (points_in t))
reached (lone v) = reach_push None v.point [] refl
reached (more t v) =
    subst (Reached (reach_of (more t v))) (sym (curve_push (points_in t) v.point))
    (reach_push (reach_of t) v.point (curve (points_in t)) (reached t))

ordered : (l h : ℤ) (zs : List ℤ) → Least l zs → Greatest h zs → l ≤ℤ h
ordered l h zs a b = all-has (λ z. l ≤ℤ z) zs h a.1 b.0

gap_is : (l h : ℤ) → l ≤ℤ h → pos (nat_abs (h -ℤ l)) ≡ h -ℤ l
gap_is l h le = omega (arith, ints)

-- the ends are close exactly where all are
short_decides : (units : ℕ) (r : Option Reach) (zs : List ℤ) → Reached r zs → Decides (short units r) (Close units zs)
short_decides units None zs e = (λ _. subst (Close units) (sym e) tt, λ _. refl)
short_decides units (Some r) zs e =
    let le : r.low.0 ≤ℤ r.high.0 = ordered r.low.0 r.high.0 zs e.0 e.1 in
    let g : pos (nat_abs (r.high.0 -ℤ r.low.0)) ≡ r.high.0 -ℤ r.low.0 = gap_is r.low.0 r.high.0 le in (
      λ t. let lt : nat_abs (r.high.0 -ℤ r.low.0) < units / 14 = ltb-true (nat_abs (r.high.0 -ℤ r.low.0)) (units / 14) t in
          All-weaker (λ y. r.low.0 ≤ℤ y) (λ y. AllByRecursion (λ z. (z -ℤ y) <ℤ pos (units / 14)) zs)
          (λ y low. All-weaker (λ z. z ≤ℤ r.high.0) (λ z. (z -ℤ y) <ℤ pos (units / 14)) (λ z high. omega (arith, ints)) zs e.1.1)
          zs e.0.1,
      λ close. lt-ltb (nat_abs (r.high.0 -ℤ r.low.0)) (units / 14)
          (let lt : (r.high.0 -ℤ r.low.0) <ℤ pos (units / 14)
          = all-has (λ z. (z -ℤ r.low.0) <ℤ pos (units / 14)) zs r.high.0
          (all-has (λ y. AllByRecursion (λ z. (z -ℤ y) <ℤ pos (units / 14)) zs) zs r.low.0 close e.0.0) e.1.0 in
          omega (arith, ints)),
    )

control_decides : (k : PointKind) → Decides (control k) (k ≡ Control)
control_decides Control = (λ _. refl, λ _. refl)
control_decides OnCurve = (λ e. cc, λ e. cc)

pub ordered-told : (t : Taken) → (low_of t).at.0 ≤ℤ (high_of t).at.0
ordered-told t = ordered (low_of t).at.0 (high_of t).at.0 (coordinates (points_in t)) (low_told t) (high-told t)

pub segments-told : SegmentsTold
segments-told units s = record {
  least = (least_of s.all).0;
  greatest = (greatest_of s.all).0;
  left = least-told s.all;
  right = greatest-told s.all;
  middle = refl;
  spread = refl;
  low = low_told s.own;
  high = high-told s.own;
  tall = gap_is (low_of s.own).at.0 (high_of s.own).at.0 (ordered-told s.own);
  low_kind = (low_of s.own).kind;
  high_kind = (high_of s.own).kind;
  low_giver = low-gives s.own;
  high_giver = high-gives s.own;
  round = Decides-and (control (low_of s.own).kind || control (high_of s.own).kind) (short units (reach_of s.own))
      (Decides-or (control (low_of s.own).kind) (control (high_of s.own).kind) (control_decides (low_of s.own).kind) (control_decides (high_of s.own).kind))
      (short_decides units (reach_of s.own) (curve (points_in s.own)) (reached s.own));
}
