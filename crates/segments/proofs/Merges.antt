-- Rows that touch are merged, and the tallest survives.
use Rattle.std.proofs.Common.{◌≡◌, ◌<◌, ◌≤◌, Bool, true, false, cond, eqb, ltb, List, [], ◌∷◌, ◌++◌, Some, None, Option, sym, refl, ap, ◌∙◌, subst, append_assoc, arith}
use Rattle.std.specs.Option.{option_to_list}
use Rattle.std.specs.List.{AllByRecursion}
use Rattle.std.proofs.ByRecursion.{All-append, All-push, All-weaker}
use Rattle.std.proofs.lemmas.List.{append-nil}
use Rattle.std.proofs.lemmas.Bool.{ltb-true, ltb-false, eqb-true, eqb-false}
use Rattle.segments.specs.Building.{Visit}
use Rattle.segments.specs.Rows.{Group, single, then, rows_in, Meets, Merged, AllMerged, all_rows, Apart}
use Rattle.segments.specs.Stretches.{Taken, lone, more, first_of, last_of, both, height_of, Stretch, plain, unite, earlier, newest}

first-both : (t u : Taken) → first_of (both t u) ≡ first_of t
first-both t (lone v) = refl
first-both t (more u v) = first-both t u

merged-one : (t : Taken) → Merged (single t) (plain t)
merged-one t = record { meets = tt; all = refl; before = []; after = []; parts = refl; none_taller = tt; later_lower = tt }

module _ (g : Group) (e : Stretch) (t : Taken) (m : Merged g e) (met : (last_of e.all).at ≡ (first_of t).at) where
  meeting : Meets (then g t)
  meeting = (m.meets, ap (λ (u : Taken). (last_of u).at) (sym m.all) ∙ met)

  -- by whether the later is the lower
  merged_by : (j : Bool) → ltb (height_of t) (height_of e.own) ≡ j → Merged (then g t) (record { own = cond j e.own t; all = both e.all t })
  merged_by true h =
      let lower : height_of t < height_of e.own = ltb-true (height_of t) (height_of e.own) h in
      record {
        meets = meeting;
        all = ap (λ (u : Taken). both u t) m.all;
        before = m.before;
        after = m.after ++ t ∷ [];
        parts = ap (λ (r : List Taken). r ++ t ∷ []) m.parts ∙ append_assoc m.before (e.own ∷ m.after) (t ∷ []);
        none_taller = m.none_taller;
        later_lower = All-push (λ r. height_of r < height_of e.own) m.after t m.later_lower lower;
      }
  merged_by false h =
      let le : height_of e.own ≤ height_of t = ltb-false (height_of t) (height_of e.own) h in
      record {
        meets = meeting;
        all = ap (λ (u : Taken). both u t) m.all;
        before = rows_in g;
        after = [];
        parts = refl;
        none_taller = subst (AllByRecursion (λ r. height_of r ≤ height_of t)) (sym m.parts)
            (All-append (λ r. height_of r ≤ height_of t) m.before (e.own ∷ m.after)
            (All-weaker (λ r. height_of r ≤ height_of e.own) (λ r. height_of r ≤ height_of t) (λ r k. omega arith) m.before m.none_taller)
            (le, All-weaker (λ r. height_of r < height_of e.own) (λ r. height_of r ≤ height_of t) (λ r k. omega arith) m.after m.later_lower));
        later_lower = tt;
      }

  merged-more : Merged (then g t) (unite e (plain t))
  merged-more = merged_by (ltb (height_of t) (height_of e.own)) refl

-- segments that do not touch
apart_push : (xs : List Stretch) (e f : Stretch) → Apart (xs ++ e ∷ []) → ((last_of e.all).at ≡ (first_of f.all).at → ⊥) → Apart ((xs ++ e ∷ []) ++ f ∷ [])
apart_push [] e f a h = (h, tt)
apart_push (x ∷ []) e f a h = (a.0, (h, tt))
apart_push (x ∷ y ∷ xs) e f a h = (a.0, apart_push (y ∷ xs) e f a.1 h)

apart_again : (xs : List Stretch) (e f : Stretch) → first_of f.all ≡ first_of e.all → Apart (xs ++ e ∷ []) → Apart (xs ++ f ∷ [])
apart_again [] e f same a = tt
apart_again (x ∷ []) e f same a = (λ h. a.0 (h ∙ ap (λ (v : Visit). v.at) same), tt)
apart_again (x ∷ y ∷ xs) e f same a = (a.0, apart_again (y ∷ xs) e f same a.1)

all_merged_push : (gs : List Group) (ss : List Stretch) (g : Group) (s : Stretch) → AllMerged gs ss → Merged g s → AllMerged (gs ++ g ∷ []) (ss ++ s ∷ [])
all_merged_push [] [] g s a m = (m, tt)
all_merged_push [] (x ∷ ss) g s a m = absurd a
all_merged_push (x ∷ gs) [] g s a m = absurd a
all_merged_push (x ∷ gs) (y ∷ ss) g s a m = (a.0, all_merged_push gs ss g s a.1 m)

all_rows_push : (gs : List Group) (g : Group) → all_rows (gs ++ g ∷ []) ≡ all_rows gs ++ rows_in g
all_rows_push [] g = append-nil (rows_in g)
all_rows_push (x ∷ gs) g = ap (λ (r : List Taken). rows_in x ++ r) (all_rows_push gs g) ∙ sym (append_assoc (rows_in x) (all_rows gs) (rows_in g))

-- after the rows ts
pub record Grouped (ts : List Taken) (done : List Stretch) (e : Stretch) : Type 0 where
  pub groups : List Group
  pub group : Group
  pub rows : all_rows groups ++ rows_in group ≡ ts
  pub earlier : AllMerged groups done
  pub latest : Merged group e
  pub apart : Apart (done ++ e ∷ [])

abbrev pub Placed : List Taken → List Stretch → Option Stretch → Type 0
Placed ts done None = (ts ≡ []) × (done ≡ [])
Placed ts done (Some e) = Grouped ts done e

-- one more row
grouped_more : (j : Bool) (ts : List Taken) (done : List Stretch) (e : Stretch) (t : Taken) → eqb (last_of e.all).at (first_of t).at ≡ j →
    Grouped ts done e → Grouped (ts ++ t ∷ []) (cond j done (done ++ e ∷ [])) (cond j (unite e (plain t)) (plain t))
grouped_more true ts done e t h p = record {
  groups = p.groups;
  group = then p.group t;
  rows = sym (append_assoc (all_rows p.groups) (rows_in p.group) (t ∷ [])) ∙ ap (λ (r : List Taken). r ++ t ∷ []) p.rows;
  earlier = p.earlier;
  latest = merged-more p.group e t p.latest (eqb-true (last_of e.all).at (first_of t).at h);
  apart = apart_again done e (unite e (plain t)) (first-both e.all t) p.apart;
}
grouped_more false ts done e t h p = record {
  groups = p.groups ++ p.group ∷ [];
  group = single t;
  rows = ap (λ (r : List Taken). r ++ t ∷ []) (all_rows_push p.groups p.group ∙ p.rows);
  earlier = all_merged_push p.groups done p.group e p.earlier p.latest;
  latest = merged-one t;
  apart = apart_push done e (plain t) p.apart (eqb-false (last_of e.all).at (first_of t).at h);
}

pub placed-more : (ts : List Taken) (done : List Stretch) (latest : Option Stretch) (t : Taken) → Placed ts done latest →
    Placed (ts ++ t ∷ []) (earlier done latest (Some t)) (newest latest (Some t))
placed-more ts done None t p = record {
  groups = [];
  group = single t;
  rows = ap (λ (r : List Taken). r ++ t ∷ []) (sym p.0);
  earlier = subst (AllMerged []) (sym (append-nil done ∙ p.1)) tt;
  latest = merged-one t;
  apart = subst (λ (r : List Stretch). Apart (r ++ plain t ∷ [])) (sym (append-nil done ∙ p.1)) tt;
}
placed-more ts done (Some e) t p = grouped_more (eqb (last_of e.all).at (first_of t).at) ts done e t refl p

-- so rows that are placed one after another fall into groups
pub record Sorted (ts : List Taken) (ss : List Stretch) : Type 0 where
  pub groups : List Group
  pub rows : all_rows groups ≡ ts
  pub merged : AllMerged groups ss
  pub apart : Apart ss

pub placed-all : (ts : List Taken) (done : List Stretch) (latest : Option Stretch) → Placed ts done latest → Sorted ts (done ++ option_to_list latest)
placed-all ts done None p = record {
  groups = [];
  rows = sym p.0;
  merged = subst (AllMerged []) (sym (append-nil done ∙ p.1)) tt;
  apart = subst Apart (sym (append-nil done ∙ p.1)) tt;
}
placed-all ts done (Some e) p = record {
  groups = p.groups ++ p.group ∷ [];
  rows = all_rows_push p.groups p.group ∙ p.rows;
  merged = all_merged_push p.groups done p.group e p.earlier p.latest;
  apart = p.apart;
}
