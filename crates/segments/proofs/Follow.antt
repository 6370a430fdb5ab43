-- What one step of the walk leaves, and what the walk leaves in the end.
use Rattle.std.proofs.Common.{◌≡◌, ℕ, ◌+◌, ◌-◌, ◌<◌, ◌≤◌, Bool, true, false, cond, List, [], ◌∷◌, ◌++◌, map, length, Some, None, Ok, Err, fold, Option, Result, sym, refl, ap, ◌∙◌, subst, arith}
use Rattle.std.proofs.lemmas.Bool.{false≢true}
use Rattle.std.proofs.lemmas.List.{length_push}
use Rattle.std.specs.Option.{option_len, option_to_list}
use Rattle.segments.specs.declared.faults.BuildFault.{BuildFault}
use Rattle.segments.specs.declared.fillings.Filling.{Filling}
use Rattle.segments.specs.declared.measures.Dimension.{Dimension}
use Rattle.segments.specs.declared.states.State.{State}
use Rattle.segments.specs.declared.tables.Segment.{Segment}
use Rattle.segments.specs.Building.{Built, Visit, put, segs_of, done_with, latest_with, room_with, count_with, table_with, follow, visited, fresh}
use Rattle.segments.specs.Closing.{joins, survivor}
use Rattle.segments.specs.Fillings.{Met, Stands, Reached}
use Rattle.segments.specs.Segments.{segment_of}
use Rattle.segments.specs.Walks.{Moved, moved}
use Rattle.segments.proofs.Puts.{put-none, table_close}
use Rattle.segments.proofs.Rooms.{Sound, moved_sound}

count_some : (j : Bool) (h : ℕ) (done : List State) (x y : State) →
    cond j (h + length (done ++ x ∷ []) - 1) (h + length (done ++ x ∷ [])) + 1 ≡ h + length (cond j done (done ++ x ∷ []) ++ y ∷ [])
count_some true h done x y = omega (arith, length_push done x, length_push done y)
count_some false h done x y = omega (arith, length_push (done ++ x ∷ []) y)

count_is : (h : ℕ) (done : List State) (latest closed : Option State) →
    count_with (h + length (done ++ option_to_list latest)) latest closed ≡ h + length (done_with done latest closed ++ option_to_list (latest_with latest closed))
count_is h done latest None = refl
count_is h done None (Some s) = omega (arith, length_push (done ++ []) s)
count_is h done (Some x) (Some s) = count_some (joins (Some x) s) h done x (survivor (Some x) s)

table_is : (units : ℕ) (t : List Segment) (h : ℕ) (done : List State) (latest closed : Option State) →
    h + length (done ++ option_to_list latest) + length (option_to_list closed) ≤ length t →
    table_with units (put t h (map (segment_of units) (done ++ option_to_list latest))) (h + length (done ++ option_to_list latest)) latest closed
    ≡ put t h (map (segment_of units) (done_with done latest closed ++ option_to_list (latest_with latest closed)))
table_is units t h done latest None le = refl
table_is units t h done latest (Some s) le = table_close (segment_of units) t h done latest s (omega arith)

room_fits : (o : Bool) (h room len : ℕ) → h + room ≤ 1001 → (o ≡ true → h + len ≤ 1000) → h + room_with room o len ≤ 1001
room_fits true h room len a b = omega (arith, b refl)
room_fits false h room len a b = a

pub room_holds : (o : Bool) (room len k : ℕ) → k ≤ 1 → (o ≡ false → len + k ≤ room) → len + k ≤ room_with room o len
room_holds true room len k a b = omega arith
room_holds false room len k a b = b refl

room_refuses : (o : Bool) (h room len : ℕ) → o ≡ true → 1000 < h + len → 1001 < h + room_with room o len
room_refuses true h room len e lt = omega arith
room_refuses false h room len e lt = absurd (false≢true e)

pub room_grows : (o : Bool) (room len : ℕ) → room ≤ room_with room o len
room_grows true room len = omega arith
room_grows false room len = omega arith

module _ (t : List Segment) (h : ℕ) (b : Built) (f f' : Filling) (s : Stands t h b f) (m : Moved) (ok : Sound b.walk m) where
  counted : count_with f.held f.latest m.closed ≡ h + length (segs_of (follow b m))
  counted =
      ap (λ (k : ℕ). count_with k f.latest m.closed) s.held_is
      ∙ ap (λ (l : Option State). count_with (h + length (segs_of b)) l m.closed) s.latest_is
      ∙ count_is h b.done b.latest m.closed

  -- the walk is inside a segment wherever one closes, so there is room
  tabled : table_with f.units f.table.now f.held f.latest m.closed ≡ put t h (map (segment_of f.units) (segs_of (follow b m)))
  tabled =
      ap (λ (r : List Segment). table_with f.units r f.held f.latest m.closed) s.table_is
      ∙ ap (λ (k : ℕ). table_with f.units (put t h (map (segment_of f.units) (segs_of b))) k f.latest m.closed) s.held_is
      ∙ ap (λ (l : Option State). table_with f.units (put t h (map (segment_of f.units) (segs_of b))) (h + length (segs_of b)) l m.closed) s.latest_is
      ∙ table_is f.units t h b.done b.latest m.closed (omega (arith, ok.shuts, f.few, s.held_is, s.long, ap option_len s.inside_is))

  follows : (r : Result Unit BuildFault) → Met f f' m r → Reached f f' t h (follow b m) r
  follows (Ok x) n = (
    n.along,
    record {
      long = s.long;
      inside_is = n.inside_is;
      latest_is = n.latest_is ∙ ap (λ (l : Option State). latest_with l m.closed) s.latest_is;
      held_is = n.held_is ∙ counted;
      table_is =
          n.table_is ∙ tabled ∙ ap (λ (u : ℕ). put t h (map (segment_of u) (segs_of (follow b m)))) (sym n.along.units_is);
      fits = room_fits m.opens h b.room (length (segs_of (follow b m))) s.fits (λ e. omega (arith, counted, n.held_is, n.few e));
    },
  )
  follows (Err e) n = room_refuses m.opens h b.room (length (segs_of (follow b m))) n.0 (omega (arith, counted, n.1))

-- the point v is met
pub stepped : (t : List Segment) (h base : ℕ) (dim : Dimension) (b : Built) (f f' : Filling) (v : Visit) (at : ℕ) (r : Result Unit BuildFault) →
    Stands t h b f → f.dim ≡ dim → at ≡ base + v.at → Met f f' (moved f.dim f.inside at v.point v.ends) r →
    Reached f f' t h (visited dim base b v) r
stepped t h base dim b f f' v at r s dim_is at_is n =
    let e : moved f.dim f.inside at v.point v.ends ≡ moved dim b.walk (base + v.at) v.point v.ends
    = ap (λ (d : Dimension). moved d f.inside at v.point v.ends) dim_is
    ∙ ap (λ (o : Option State). moved dim o at v.point v.ends) s.inside_is
    ∙ ap (λ (i : ℕ). moved dim b.walk i v.point v.ends) at_is in
    follows t h b f f' s (moved dim b.walk (base + v.at) v.point v.ends) (moved_sound dim b.walk (base + v.at) v.point v.ends) r
    (subst (λ (m : Moved). Met f f' m r) e n)

-- before the first point
pub stands_none : (f : Filling) → f.inside ≡ None → f.latest ≡ None → Stands f.table.now f.held fresh f
stands_none f inside_is latest_is = record {
  long = f.long;
  inside_is = inside_is;
  latest_is = latest_is;
  held_is = omega arith;
  table_is = sym (put-none f.table.now f.held);
  fits = omega (arith, f.few);
}

-- the room never shrinks
pub room_visited : (dim : Dimension) (base : ℕ) (b : Built) (v : Visit) → b.room ≤ (visited dim base b v).room
room_visited dim base b v =
    let m : Moved = moved dim b.walk (base + v.at) v.point v.ends in
    room_grows m.opens b.room (length (segs_of (follow b m)))

pub room_folded : (dim : Dimension) (base : ℕ) (b : Built) (vs : List Visit) → b.room ≤ (fold (visited dim base) b vs).room
room_folded dim base b [] = omega arith
room_folded dim base b (v ∷ vs) = omega (arith, room_visited dim base b v, room_folded dim base (visited dim base b v) vs)
