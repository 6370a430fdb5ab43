-- What a write to the table leaves: one more entry, or another latest one.
use Rattle.std.proofs.Common.{◌≡◌, ℕ, ◌+◌, ◌-◌, ◌<◌, ◌≤◌, Bool, true, false, cond, List, [], ◌∷◌, ◌++◌, map, length, get_or, take, drop, set, Some, None, Option, sym, refl, ap, ◌∙◌, append_assoc, arith}
use Rattle.std.specs.Option.{option_to_list}
use Rattle.std.proofs.lemmas.List.{drop_more, set_at, length-append, length-take-le, length_push, map_push, length-map, take-append-drop, take_at, drop_at, drop-drop}
use Rattle.segments.specs.declared.tables.Segment.{Segment}
use Rattle.segments.specs.declared.states.State.{State}
use Rattle.segments.specs.Closing.{joins, survivor, place_of}
use Rattle.segments.specs.Building.{put, done_with}

length_front : (t es : List Segment) (h : ℕ) → h ≤ length t → length (take h t ++ es) ≡ h + length es
length_front t es h le = length-append (take h t) es ∙ ap (λ n. n + length es) (length-take-le h t le)

-- p y rest, with y put after p
put-at : (t es : List Segment) (y : Segment) (h : ℕ) →
    (take h t ++ es) ++ (y ∷ drop (h + length es + 1) t) ≡ put t h (es ++ y ∷ [])
unfolding put
put-at t es y h =
    append_assoc (take h t) es (y ∷ drop (h + length es + 1) t)
    ∙ ap (λ r. take h t ++ r) (sym (append_assoc es (y ∷ []) (drop (h + length es + 1) t)))
    ∙ ap (λ n. take h t ++ ((es ++ y ∷ []) ++ drop n t)) (omega (arith, length_push es y))

pub put-more : (t es : List Segment) (y : Segment) (h : ℕ) → h + length es < length t →
    set (put t h es) (h + length es) y ≡ put t h (es ++ y ∷ [])
unfolding put
put-more t es y h lt =
    ap (λ r. set r (h + length es) y)
    (sym (append_assoc (take h t) es (drop (h + length es) t)) ∙ ap (λ r. (take h t ++ es) ++ r) (drop_more t (h + length es) y lt))
    ∙ set_at (take h t ++ es) (get_or t (h + length es) y) (drop (h + length es + 1) t) y (h + length es) (length_front t es h (omega arith))
    ∙ put-at t es y h

pub put_last : (t es : List Segment) (x y : Segment) (h : ℕ) → h ≤ length t →
    set (put t h (es ++ x ∷ [])) (h + length es) y ≡ put t h (es ++ y ∷ [])
put_last t es x y h le =
    ap (λ r. set r (h + length es) y) (sym (put-at t es x h))
    ∙ set_at (take h t ++ es) x (drop (h + length es + 1) t) y (h + length es) (length_front t es h le)
    ∙ put-at t es y h

module _ (e : State → Segment) (t : List Segment) (h : ℕ) where
  more : (done : List State) (y : State) → h + length done < length t →
      set (put t h (map e done)) (h + length done) (e y) ≡ put t h (map e (done ++ y ∷ []))
  more done y lt =
      ap (λ n. set (put t h (map e done)) n (e y)) (omega (arith, length-map done e))
      ∙ put-more t (map e done) (e y) h (omega (arith, length-map done e))
      ∙ ap (put t h) (sym (map_push e done y))

  last : (done : List State) (x y : State) → h ≤ length t →
      set (put t h (map e (done ++ x ∷ []))) (h + length (done ++ x ∷ []) - 1) (e y) ≡ put t h (map e (done ++ y ∷ []))
  last done x y le =
      ap (λ n. set (put t h (map e (done ++ x ∷ []))) n (e y)) (omega (arith, length-map done e, length_push done x))
      ∙ ap (λ r. set (put t h r) (h + length (map e done)) (e y)) (map_push e done x)
      ∙ put_last t (map e done) (e x) (e y) h le
      ∙ ap (put t h) (sym (map_push e done y))

  either : (j : Bool) (done : List State) (x y : State) → h + length (done ++ x ∷ []) < length t →
      set (put t h (map e (done ++ x ∷ []))) (cond j (h + length (done ++ x ∷ []) - 1) (h + length (done ++ x ∷ []))) (e y)
      ≡ put t h (map e (cond j done (done ++ x ∷ []) ++ y ∷ []))
  either true done x y lt = last done x y (omega arith)
  either false done x y lt = more (done ++ x ∷ []) y lt

  -- a segment closes
  pub table_close : (done : List State) (latest : Option State) (s : State) → h + length (done ++ option_to_list latest) < length t →
      set (put t h (map e (done ++ option_to_list latest))) (place_of (h + length (done ++ option_to_list latest)) latest s) (e (survivor latest s))
      ≡ put t h (map e (done_with done latest (Some s) ++ survivor latest s ∷ []))
  table_close done None s lt = more (done ++ []) s lt
  table_close done (Some x) s lt = either (joins (Some x) s) done x (survivor (Some x) s) lt

pub put-none : (t : List Segment) (h : ℕ) → put t h [] ≡ t
unfolding put
put-none t h = ap (λ n. take h t ++ drop n t) (let e : h + 0 ≡ h = omega arith in e) ∙ take-append-drop h t

pub put_one : (t : List Segment) (h : ℕ) (y : Segment) → h < length t → set t h y ≡ put t h (y ∷ [])
put_one t h y lt =
    let e : h ≡ h + 0 = omega arith in
    ap (λ n. set t n y) e ∙ ap (λ r. set r (h + 0) y) (sym (put-none t h)) ∙ put-more t [] y h (omega arith)

-- entries after entries
pub put-put : (t E es : List Segment) → length E ≤ length t → put (E ++ drop (length E) t) (length E) es ≡ (E ++ es) ++ drop (length (E ++ es)) t
unfolding put
put-put t E es le =
    ap (λ r. r ++ (es ++ drop (length E + length es) (E ++ drop (length E) t))) (take_at E (drop (length E) t) (length E) refl)
    ∙ ap (λ r. E ++ (es ++ r))
    (sym (drop-drop (length es) (length E) (E ++ drop (length E) t))
    ∙ ap (drop (length es)) (drop_at E (drop (length E) t) (length E) refl)
    ∙ drop-drop (length es) (length E) t
    ∙ ap (λ n. drop n t) (sym (length-append E es)))
    ∙ sym (append_assoc E es (drop (length (E ++ es)) t))
