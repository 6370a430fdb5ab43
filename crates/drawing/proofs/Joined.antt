-- Contours of other drawings, one after another, and a point in another's place.
use Rattle.std.proofs.Common.{◌≡◌, ℕ, zero, suc, ◌+◌, ◌-◌, ◌<◌, ◌≤◌, List, [], ◌∷◌, ◌++◌, length, get_or, take, drop, set, sym, refl, ap, ◌∙◌, append_assoc, arith}
use native.Mathlib.Nat.{sub-zero}
use Rattle.std.specs.List.{between}
use Rattle.std.proofs.lemmas.List.Edits.{between_more}
use Rattle.std.proofs.lemmas.List.{set-append_left, take-append-drop, take_at, take-set-le, drop-set-lt, drop-set-add, drop_more, length-take, length-drop, length-set}
use Rattle.std.proofs.lemmas.Slice.{between_is, between_to_end}
use Rattle.outline.specs.declared.contours.Contour.{Contour}
use Rattle.outline.specs.declared.points.DrawnPoint.{DrawnPoint}
use Rattle.analysis.specs.Outlines.{Contours, Tiles, points_of, cut_out, point_count}
use Rattle.analysis.proofs.Standing.{point_count-append}
use Rattle.analysis.proofs.Tilings.{tiles_le}

-- one contour more of another drawing
pub appended_more : (entry cs ds bs : Contours) (f k : ℕ) → f ≤ k → k < length ds → cs ≡ entry ++ between f k ds → bs ≡ cs ++ get_or ds k [] ∷ []
    → bs ≡ entry ++ between f (k + 1) ds
appended_more entry cs ds bs f k l h e p =
    let more = between_more ds f k [] l h in
    let g = append_assoc entry (between f k ds) (get_or ds k [] ∷ []) in
    cc

-- contours up to k are among those up to e
within_more : (ds : Contours) (m n : ℕ) → m ≤ n → point_count (take m ds) ≤ point_count (take n ds)
within_more ds zero n h = omega arith
within_more [] (suc m) n h = omega arith
within_more (d ∷ ds) (suc m) zero h = absurd (omega arith)
within_more (d ∷ ds) (suc m) (suc n) h = omega (arith, within_more ds m n (omega arith))

-- there is room for contour k where there is room for those up to e
pub room-more : (entry cs ds : Contours) (f k e : ℕ) → f ≤ k → k < e → e ≤ length ds → cs ≡ entry ++ between f k ds
    → point_count entry + point_count (between f e ds) ≤ 2048 → point_count cs + length (get_or ds k []) ≤ 2048
room-more entry cs ds f k e l h m p q =
    let next = ap point_count (between_more ds f k [] l (omega arith)) ∙ point_count-append (between f k ds) (get_or ds k [] ∷ []) in
    let here = ap point_count p ∙ point_count-append entry (between f k ds) in
    omega (arith, within_more (drop f ds) (k + 1 - f) (e - f) (omega arith), next, here)

between_front : (cs : Contours) (k : ℕ) → between 0 k cs ≡ take k cs
between_front cs k = ap (λ (n : ℕ). take n cs) (sub-zero k)

-- the points of a drawing: those before contour k, its own, those after it
pub parts-count : (cs : Contours) (k : ℕ) → k < length cs → point_count cs ≡ point_count (take k cs) + length (get_or cs k []) + point_count (drop (k + 1) cs)
parts-count cs k h =
    let whole : cs ≡ take k cs ++ (get_or cs k [] ∷ drop (k + 1) cs) = sym (take-append-drop k cs) ∙ ap (λ (x : Contours). take k cs ++ x) (drop_more cs k [] h) in
    omega (arith, ap point_count whole, point_count-append (take k cs) (get_or cs k [] ∷ drop (k + 1) cs))

-- a splice, part by part: old up to contour k, all of new, old after contour k
module _ (old new : Contours) (k : ℕ) (h : k < length old)
    (few : (point_count old - length (get_or old k [])) + point_count new ≤ 2048) where
  pub front-points : (a : Contours) → a ≡ [] → point_count a + point_count (between 0 k old) ≤ 2048
  front-points a e = rw (e, between_front old k) (omega (arith, parts-count old k h))

  module _ (a b : Contours) (e : a ≡ []) (p : b ≡ a ++ between 0 k old) (n : ℕ) (all_new : n ≡ length new) where
    front : b ≡ take k old
    front = rw (p, e) (between_front old k)

    middle : between 0 n new ≡ new
    middle = between_to_end new 0 n (omega arith)

    pub middle-points : point_count b + point_count (between 0 n new) ≤ 2048
    middle-points = rw (front, middle) (omega (arith, parts-count old k h))

    module _ (c : Contours) (q : c ≡ b ++ between 0 n new) (m : ℕ) (all_old : m ≡ length old) where
      both : c ≡ take k old ++ new
      both = rw (q, front, middle)

      rest : between (k + 1) m old ≡ drop (k + 1) old
      rest = between_to_end old (k + 1) m (omega arith)

      pub rest-points : point_count c + point_count (between (k + 1) m old) ≤ 2048
      rest-points = rw (both, rest) (omega (arith, point_count-append (take k old) new, parts-count old k h))

-- a point of contour k in the place of another
take-set : {X : Type 0} (n : ℕ) (xs : List X) (j : ℕ) (q : X) → j < n → n ≤ length xs → take n (set xs j q) ≡ set (take n xs) j q
take-set n xs j q h l =
    let len : length (take n xs) ≡ n = simp length-take (omega arith) in
    let len' : length (set (take n xs) j q) ≡ n = simp (length-set, length-take) (omega arith) in
    let whole = take-append-drop n xs in
    let left = set-append_left (take n xs) (drop n xs) j q (omega arith) in
    let front = take_at (set (take n xs) j q) (drop n xs) n len' in
    cc

-- contours after the point stay
cut_out-after : (b n i : ℕ) (cs : List Contour) (ps : List DrawnPoint) (q : DrawnPoint) → Tiles b n cs → i < b → cut_out cs (set ps i q) ≡ cut_out cs ps
cut_out-after b n i [] ps q t l = refl
cut_out-after b n i (c ∷ cs) ps q t l =
    let here = ap (λ (x : List DrawnPoint). take (c.end - c.first) x) (drop-set-lt c.first ps i q (omega (arith, t.0))) in
    let more = cut_out-after c.end n i cs ps q t.2 (omega (arith, t.0, t.1)) in
    cc

pub tiles_from : (b n k : ℕ) (cs : List Contour) (d : Contour) → Tiles b n cs → k < length cs → (b ≤ (get_or cs k d).first) × ((get_or cs k d).first < (get_or cs k d).end) × ((get_or cs k d).end ≤ n)
tiles_from b n k [] d t h = absurd (omega arith)
tiles_from b n zero (c ∷ cs) d t h = (omega (arith, t.0), t.1, tiles_le c.end n cs t.2)
tiles_from b n (suc k) (c ∷ cs) d t h =
    let more = tiles_from c.end n k cs d t.2 (omega arith) in
    (omega (arith, more.0, t.0, t.1), more.1, more.2)

pub cut_out-set : (b n k j : ℕ) (cs : List Contour) (d : Contour) (ps : List DrawnPoint) (q : DrawnPoint) → Tiles b n cs → n ≤ length ps → k < length cs
    → j < (get_or cs k d).end - (get_or cs k d).first
    → cut_out cs (set ps ((get_or cs k d).first + j) q) ≡ set (cut_out cs ps) k (set (points_of ps (get_or cs k d)) j q)
cut_out-set b n k j [] d ps q t l h i = absurd (omega arith)
cut_out-set b n zero j (c ∷ cs) d ps q t l h i =
    let end = tiles_le c.end n cs t.2 in
    let long : c.end - c.first ≤ length (drop c.first ps) = simp length-drop (omega (arith, end, l, t.1)) in
    let here = ap (λ (x : List DrawnPoint). take (c.end - c.first) x) (drop-set-add c.first ps j q) ∙ take-set (c.end - c.first) (drop c.first ps) j q i long in
    let more = cut_out-after c.end n (c.first + j) cs ps q t.2 (omega arith) in
    cc
cut_out-set b n (suc k) j (c ∷ cs) d ps q t l h i =
    let from = (tiles_from c.end n k cs d t.2 (omega arith)).0 in
    let front = ap (λ (x : List DrawnPoint). drop c.first x) (take-set-le c.end ps ((get_or cs k d).first + j) q (omega (arith, from))) in
    let here = between_is (set ps ((get_or cs k d).first + j) q) c.first c.end ∙ (front ∙ sym (between_is ps c.first c.end)) in
    let more = cut_out-set c.end n k j cs d ps q t.2 l (omega arith) i in
    cc
