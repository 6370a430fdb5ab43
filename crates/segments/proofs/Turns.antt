-- The walk through a part of a contour, and round a contour.
use Rattle.std.proofs.Common.{◌≡◌, ℕ, ◌+◌, ◌<◌, ◌≤◌, true, false, List, [], ◌∷◌, ◌++◌, map, length, get_or, take, drop, fold, set, is_err, None, Ok, Err, Option, Result, sym, refl, ap, ◌∙◌, subst, arith}
use Rattle.std.proofs.lemmas.Bool.{false≢true}
use Rattle.std.proofs.lemmas.List.{take_all, take-append-drop, get_or-map, length-map}
use Rattle.std.proofs.lemmas.List.Sums.{fold-append, fold_more}
use Rattle.outline.specs.declared.points.Point.{Point}
use Rattle.segments.specs.declared.faults.BuildFault.{BuildFault}
use Rattle.segments.specs.declared.fillings.Filling.{Filling}
use Rattle.segments.specs.declared.measures.AxisPoint.{AxisPoint}
use Rattle.segments.specs.declared.measures.Dimension.{Dimension}
use Rattle.segments.specs.declared.tables.Segment.{Segment}
use Rattle.segments.specs.Building.{Built, Visit, put, segs_of, lone_built, numbered, visits_of, once_round, walked, visited, fresh}
use Rattle.segments.specs.Fillings.{Along, OpensAs, Closes, Moves, Met, Stands, Reached, Passed, BuiltAs}
use Rattle.segments.specs.declared.states.State.{State}
use Rattle.segments.specs.Closing.{survivor, place_of}
use Rattle.segments.specs.States.{opened}
use Rattle.segments.specs.Measures.{seen}
use Rattle.segments.specs.Segments.{segment_of}
use Rattle.segments.specs.Starts.{start_of}
use Rattle.segments.specs.Walks.{moved}
use Rattle.segments.proofs.Follow.{stepped, stands_none, room_visited, room_folded}
use Rattle.segments.proofs.Puts.{put_one}
use Rattle.segments.proofs.Steps.{after}
use Rattle.segments.proofs.Visits.{length-numbered, get_or-numbered, back, round_parts}

room-taken : (dim : Dimension) (base : ℕ) (b : Built) (vs : List Visit) (k : ℕ) → (fold (visited dim base) b (take k vs)).room ≤ (fold (visited dim base) b vs).room
room-taken dim base b vs k =
    let e : fold (visited dim base) b vs ≡ fold (visited dim base) (fold (visited dim base) b (take k vs)) (drop k vs)
    = ap (fold (visited dim base) b) (sym (take-append-drop k vs)) ∙ fold-append (visited dim base) b (take k vs) (drop k vs) in
    omega (arith, room_folded dim base (fold (visited dim base) b (take k vs)) (drop k vs), ap (λ (b : Built). b.room) e)

-- the walk through the points ps, after k of them: from f to g
pub record Passing (f g : Filling) (first : ℕ) (ps : List Point) (k : ℕ) : Type 0 where
  pub along : Along f g
  pub stands : (t : List Segment) (h base i : ℕ) (b : Built) → first ≡ base + i → Stands t h b f →
      Stands t h (fold (visited f.dim base) b (take k (numbered i (map (seen f.dim) ps)))) g

pub passing_all : (f g : Filling) (first : ℕ) (ps : List Point) (k : ℕ) (x : Unit) → Passing f g first ps k → length ps ≤ k → Passed f g first ps (Ok x)
passing_all f g first ps k x p le = λ t h base i b first_is s. (
  p.along,
  subst (λ (vs : List Visit). Stands t h (fold (visited f.dim base) b vs) g)
      (take_all k (numbered i (map (seen f.dim) ps)) (omega (arith, length-numbered i (map (seen f.dim) ps), length-map ps (seen f.dim))))
      (p.stands t h base i b first_is s),
)

module _ (f g g' : Filling) (first : ℕ) (ps : List Point) (k : ℕ) (d : Point) (p : Passing f g first ps k) (lt : k < length ps)
    (r : Result Unit BuildFault) (m : Met g g' (moved g.dim g.inside (first + k) (seen g.dim (get_or ps k d)) false) r) where
  reached : (t : List Segment) (h base i : ℕ) (b : Built) → first ≡ base + i → Stands t h b f →
      Reached g g' t h (fold (visited f.dim base) b (take (k + 1) (numbered i (map (seen f.dim) ps)))) r
  reached t h base i b first_is s =
      let v : Visit = record { at = i + k; point = seen g.dim (get_or ps k d); ends = false } in
      let n : length (numbered i (map (seen f.dim) ps)) ≡ length ps
      = length-numbered i (map (seen f.dim) ps) ∙ length-map ps (seen f.dim) in
      let here : get_or (numbered i (map (seen f.dim) ps)) k v ≡ v
      = get_or-numbered i (map (seen f.dim) ps) k v (seen f.dim d) (omega (arith, length-map ps (seen f.dim)))
      ∙ ap (λ (x : AxisPoint). record { at = i + k; point = x; ends = false }) (get_or-map (seen f.dim) ps k d (seen f.dim d) lt)
      ∙ ap (λ (e : Dimension). record { at = i + k; point = seen e (get_or ps k d); ends = false }) (sym p.along.dim_is) in
      subst (λ (c : Built). Reached g g' t h c r)
      (sym (fold_more (visited f.dim base) b (numbered i (map (seen f.dim) ps)) k v (omega arith)
      ∙ ap (visited f.dim base (fold (visited f.dim base) b (take k (numbered i (map (seen f.dim) ps))))) here))
      (stepped t h base f.dim (fold (visited f.dim base) b (take k (numbered i (map (seen f.dim) ps)))) g g' v (first + k) r
      (p.stands t h base i b first_is s) p.along.dim_is (omega (arith, first_is)) m)

pub passing_more : (f g g' : Filling) (first : ℕ) (ps : List Point) (k : ℕ) (d : Point) (x : Unit) → Passing f g first ps k → k < length ps →
    Met g g' (moved g.dim g.inside (first + k) (seen g.dim (get_or ps k d)) false) (Ok x) →
    Passing f g' first ps (k + 1)
passing_more f g g' first ps k d x p lt m = record {
  along = after p.along m.along;
  stands = λ t h base i b first_is s. (reached f g g' first ps k d p lt (Ok x) m t h base i b first_is s).1;
}

reached_err : (f g : Filling) (t : List Segment) (h : ℕ) (b : Built) (r : Result Unit BuildFault) → is_err r ≡ true → 1001 < h + b.room → Reached f g t h b r
reached_err f g t h b (Ok x) e over = absurd (false≢true e)
reached_err f g t h b (Err x) e over = over

pub passing_breaks : (f g g' : Filling) (first : ℕ) (ps : List Point) (k : ℕ) (d : Point) (e : BuildFault) (r : Result Unit BuildFault) → Passing f g first ps k →
    k < length ps → Met g g' (moved g.dim g.inside (first + k) (seen g.dim (get_or ps k d)) false) (Err e) → is_err r ≡ true → Passed f g' first ps r
passing_breaks f g g' first ps k d e r p lt m err = λ t h base i b first_is s.
    reached_err f g' t h (fold (visited f.dim base) b (numbered i (map (seen f.dim) ps))) r err
    (omega (
      arith,
      reached f g g' first ps k d p lt (Err e) m t h base i b first_is s,
      room-taken f.dim base b (numbered i (map (seen f.dim) ps)) (k + 1),
    ))

built_err : (f g : Filling) (b : Built) (r : Result Unit BuildFault) → is_err r ≡ true → 1001 < f.held + b.room → BuiltAs f g b r
built_err f g b (Ok x) e over = absurd (false≢true e)
built_err f g b (Err x) e over = over

pub head : (ps : List Point) → 0 < length ps → Point
head [] lt = absurd (omega arith)
head (p ∷ ps) lt = p

-- round a contour, from the place s back to it
module _ (f : Filling) (first : ℕ) (ps : List Point) (s : ℕ) (d : Point) (lt : s < length ps) (s_is : s ≡ start_of f.dim (map (seen f.dim) ps))
    (outside : f.inside ≡ None) (none : f.latest ≡ None) where
  abbrev later : Built
  later = fold (visited f.dim first) fresh (numbered s (map (seen f.dim) (drop s ps)))

  abbrev whole : Built
  whole = fold (visited f.dim first) later (numbered 0 (map (seen f.dim) (take s ps)))

  abbrev round : Built
  round = walked f.dim first (visits_of f.dim (map (seen f.dim) ps))

  round_is : round ≡ visited f.dim first whole (back f.dim ps s d lt)
  unfolding walked
  round_is =
      ap (λ (i : ℕ). fold (visited f.dim first) fresh (once_round i (numbered 0 (map (seen f.dim) ps)))) (sym s_is)
      ∙ ap (fold (visited f.dim first) fresh) (round_parts f.dim ps s d lt)
      ∙ fold-append (visited f.dim first) fresh (numbered s (map (seen f.dim) (drop s ps))) (numbered 0 (map (seen f.dim) (take s ps)) ++ back f.dim ps s d lt ∷ [])
      ∙ fold-append (visited f.dim first) later (numbered 0 (map (seen f.dim) (take s ps))) (back f.dim ps s d lt ∷ [])

  room_whole : whole.room ≤ round.room
  room_whole = omega (arith, room_visited f.dim first whole (back f.dim ps s d lt), ap (λ (b : Built). b.room) round_is)

  module _ (g : Filling) where
    first_part : (us : List Point) (r : Result Unit BuildFault) → us ≡ drop s ps → Passed f g (first + s) us r → Reached f g f.table.now f.held later r
    first_part us r us_is p =
        subst (λ (us : List Point). Reached f g f.table.now f.held (fold (visited f.dim first) fresh (numbered s (map (seen f.dim) us))) r) us_is
        (p f.table.now f.held first s fresh refl (stands_none f outside none))

    pub round-breaks : (us : List Point) (e : BuildFault) (r : Result Unit BuildFault) → us ≡ drop s ps → Passed f g (first + s) us (Err e) →
        is_err r ≡ true → BuiltAs f g round r
    round-breaks us e r us_is p err =
        built_err f g round r err
        (omega (arith, first_part us (Err e) us_is p, room_folded f.dim first later (numbered 0 (map (seen f.dim) (take s ps))), room_whole))

    module _ (g' : Filling) (us vs : List Point) (x : Unit) (us_is : us ≡ drop s ps) (vs_is : vs ≡ take s ps) (p : Passed f g (first + s) us (Ok x)) where
      second_part : (r : Result Unit BuildFault) → Passed g g' first vs r → Reached g g' f.table.now f.held whole r
      second_part r q =
          let a = first_part us (Ok x) us_is p in
          subst (λ (e : Dimension). Reached g g' f.table.now f.held (fold (visited e first) later (numbered 0 (map (seen e) (take s ps)))) r) a.0.dim_is
          (subst (λ (vs : List Point). Reached g g' f.table.now f.held (fold (visited g.dim first) later (numbered 0 (map (seen g.dim) vs))) r) vs_is
          (q f.table.now f.held first 0 later (omega arith) a.1))

      pub round-breaks_late : (e : BuildFault) (r : Result Unit BuildFault) → Passed g g' first vs (Err e) → is_err r ≡ true → BuiltAs f g' round r
      round-breaks_late e r q err = built_err f g' round r err (omega (arith, second_part (Err e) q, room_whole))

      pub round-built : (h : Filling) (y z : Unit) → Passed g g' first vs (Ok y) →
          Moves g' h (moved g'.dim g'.inside (first + s) (seen g'.dim (get_or ps s d)) true) → BuiltAs f h round (Ok z)
      round-built h y z q m =
          let a = first_part us (Ok x) us_is p in
          let b = second_part (Ok y) q in
          let dim_is : g'.dim ≡ f.dim = b.0.dim_is ∙ a.0.dim_is in
          let n = stepped f.table.now f.held first f.dim whole g' h (back f.dim ps s d lt) (first + s) (Ok z) b.1 dim_is refl
          (subst (λ (e : Dimension). Moves g' h (moved g'.dim g'.inside (first + s) (seen e (get_or ps s d)) true)) dim_is m) in
          let along : Along f h = after (after a.0 b.0) n.0 in
          subst (λ (c : Built). BuiltAs f h c (Ok z)) (sym round_is) (
            along,
            n.1.fits,
            n.1.held_is,
            n.1.table_is
                ∙ ap (λ (u : ℕ). put f.table.now f.held (map (segment_of u) (segs_of (visited f.dim first whole (back f.dim ps s d lt))))) along.units_is,
          )

-- a contour of one point
pub lone-built : (f g h : Filling) (first : ℕ) (p : AxisPoint) (x : Unit) → f.latest ≡ None → OpensAs f g (opened first p) → Closes g h (opened first p) →
    BuiltAs f h (lone_built first p) (Ok x)
lone-built f g h first p x none o c =
    let l : g.latest ≡ None = o.latest_is ∙ none in (
      after o.along c.along,
      omega (arith, o.few),
      c.held_is ∙ ap (λ (q : Option State). place_of g.held q (opened first p) + 1) l ∙ ap (λ (n : ℕ). n + 1) o.held_is,
      c.table_is
          ∙ ap (λ (q : Option State). set g.table.now (place_of g.held q (opened first p)) (segment_of g.units (survivor q (opened first p)))) l
          ∙ ap (λ (n : ℕ). set g.table.now n (segment_of g.units (opened first p))) o.held_is
          ∙ ap (λ (u : ℕ). set g.table.now f.held (segment_of u (opened first p))) o.along.units_is
          ∙ ap (λ (r : List Segment). set r f.held (segment_of f.units (opened first p))) o.table_is
          ∙ put_one f.table.now f.held _ (omega (arith, o.few, f.long)),
    )
