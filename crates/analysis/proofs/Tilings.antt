-- Contours one after another: one turn of a loop over them.
use Rattle.std.proofs.Common.{◌≡◌, ℕ, ◌+◌, ◌-◌, ◌*◌, ◌^◌, ◌<◌, ◌≤◌, Bool, List, [], ◌∷◌, ◌++◌, length, get_or, take, drop, ℤ, pos, ◌+ℤ◌, nat_abs, refl, ◌∙◌, subst, append_assoc, arith}
use Rattle.std.proofs.lemmas.List.{drop_more, drop_all, take_all, take-append-le, length-take, length-drop, length-append, append-nil}
use Rattle.std.proofs.lemmas.List.FromFn.{length-map-range_with_len}
use Rattle.std.proofs.lemmas.Int.{ints}
use Rattle.outline.specs.declared.contours.Contour.{Contour}
use Rattle.outline.specs.declared.points.DrawnPoint.{DrawnPoint}
use Rattle.outline.specs.declared.points.Point.{Point}
use Rattle.analysis.specs.Records.{analysed, records, record_at, marks_of}
use Rattle.analysis.specs.Outlines.{Tiles, points_of, cut_out, outline_records, replaced}
use Rattle.analysis.specs.Areas.{contour_area, total_area}
use Rattle.analysis.proofs.Turns.{grouped}

-- what is left of the contours begins at b, and goes up to n
pub tiles_le : (b n : ℕ) (cs : List Contour) → Tiles b n cs → b ≤ n
tiles_le b n [] t = omega arith
tiles_le b n (c ∷ cs) t = omega (arith, tiles_le c.end n cs t.2)

pub length-analysed : (F : ℤ → ℤ → ℤ → ℤ → Bool) (N b : ℕ) (ps : List DrawnPoint) → length (analysed F N b ps) ≡ length ps
unfolding analysed records
length-analysed F N b ps = length-map-range_with_len (record_at N b ps (marks_of F N ps)) 0 (length ps)

pub length-points : (ps : List DrawnPoint) (c : Contour) → c.end ≤ length ps → length (points_of ps c) ≡ c.end - c.first
length-points ps c h = simp (length-take, length-drop) (omega arith)

-- the first of the contours that are left
pub record Turn (n : ℕ) (cs : List Contour) (k b : ℕ) (c : Contour) : Type 0 where
  pub here : c.first ≡ b
  pub some : c.first < c.end
  pub fits : c.end ≤ n
  pub rest : Tiles c.end n (drop (k + 1) cs)
  pub left : drop k cs ≡ c ∷ drop (k + 1) cs

pub turn : (n : ℕ) (cs : List Contour) (k b : ℕ) (d : Contour) → k < length cs → Tiles b n (drop k cs) → Turn n cs k b (get_or cs k d)
turn n cs k b d in' t =
    let e = drop_more cs k d in' in
    let s : Tiles b n (get_or cs k d ∷ drop (k + 1) cs) = subst (λ (xs : List Contour). Tiles b n xs) e t in
    record { here = s.0; some = s.1; fits = tiles_le (get_or cs k d).end n (drop (k + 1) cs) s.2; rest = s.2; left = e }

-- Records: from b on they are still to be written.
pub record Written (F : ℤ → ℤ → ℤ → ℤ → Bool) (N : ℕ) (ps : List DrawnPoint) (cs : List Contour) (out : List Point) (k : ℕ) : Type 0 where
  pub from : ℕ
  pub tiles : Tiles from (length ps) (drop k cs)
  pub so_far : take from out ++ outline_records F N from (cut_out (drop k cs) ps) ≡ outline_records F N 0 (cut_out cs ps)

pub written_none : (F : ℤ → ℤ → ℤ → ℤ → Bool) (N : ℕ) (ps : List DrawnPoint) (cs : List Contour) (out : List Point)
    → Tiles 0 (length ps) cs → Written F N ps cs out 0
written_none F N ps cs out t = record { from = 0; tiles = t; so_far = refl }

pub records-first : (F : ℤ → ℤ → ℤ → ℤ → Bool) (N b : ℕ) (qs : List DrawnPoint) (css : List (List DrawnPoint))
    → outline_records F N b (qs ∷ css) ≡ analysed F N b qs ++ outline_records F N (b + length qs) css
unfolding outline_records
records-first F N b qs css = refl

-- one more contour's records are written
pub written_more : (F : ℤ → ℤ → ℤ → ℤ → Bool) (N : ℕ) (ps : List DrawnPoint) (cs : List Contour) (out out' : List Point) (k : ℕ) (d : Contour)
    → k < length cs → length out ≡ length ps → (w : Written F N ps cs out k) → out' ≡ replaced F N (get_or cs k d) ps out
    → Written F N ps cs out' (k + 1)
written_more F N ps cs out out' k d in' long w e =
    let c = get_or cs k d in
    let t = turn (length ps) cs k w.from d in' w.tiles in
    let qs = points_of ps c in
    let new = analysed F N c.first qs in
    let a₁ = length-analysed F N c.first qs in
    let a₂ = length-points ps c t.fits in
    let start = take c.first out in
    let l₁ : length (start ++ new) ≡ c.end =
    length-append start new ∙ simp length-take (omega (arith, t.some, t.fits, a₁, a₂)) in
    let g₁ = append_assoc start new (drop c.end out) in
    let g₂ = take-append-le c.end (start ++ new) (drop c.end out) (omega arith) in
    let g₃ = take_all c.end (start ++ new) (omega arith) in
    let g₄ = append_assoc start new (outline_records F N c.end (cut_out (drop (k + 1) cs) ps)) in
    let b : c.first + length qs ≡ c.end = omega (arith, t.some, a₂) in
    let one = records-first F N c.first qs (cut_out (drop (k + 1) cs) ps) in
    let here = t.here in
    let left = t.left in
    let old = w.so_far in
    record { from = c.end; tiles = t.rest; so_far = cc }

pub written_all : (F : ℤ → ℤ → ℤ → ℤ → Bool) (N : ℕ) (ps : List DrawnPoint) (cs : List Contour) (out : List Point) (k : ℕ)
    → length cs ≤ k → length out ≡ length ps → Written F N ps cs out k → out ≡ outline_records F N 0 (cut_out cs ps)
unfolding outline_records
written_all F N ps cs out k done long w =
    let none = drop_all k cs done in
    let end : w.from ≡ length ps = subst (λ (xs : List Contour). Tiles w.from (length ps) xs) none w.tiles in
    let whole = take_all w.from out (omega arith) in
    let old = w.so_far in
    let nil = append-nil out in
    cc

-- Areas: the sum of the contours before the point `from`.
pub record Summed (ps : List DrawnPoint) (cs : List Contour) (sum : ℤ) (k : ℕ) : Type 0 where
  pub from : ℕ
  pub tiles : Tiles from (length ps) (drop k cs)
  pub so_far : sum +ℤ total_area (cut_out (drop k cs) ps) ≡ total_area (cut_out cs ps)
  pub bound : nat_abs sum ≤ 2 ^ 32 * from

pub summed_none : (ps : List DrawnPoint) (cs : List Contour) → Tiles 0 (length ps) cs → Summed ps cs (pos 0) 0
summed_none ps cs t = record { from = 0; tiles = t; so_far = omega (arith, ints); bound = omega arith }

area_first : (qs : List DrawnPoint) (css : List (List DrawnPoint)) → total_area (qs ∷ css) ≡ contour_area qs +ℤ total_area css
unfolding total_area
area_first qs css = refl

-- one more contour's terms are added
pub summed_more : (ps : List DrawnPoint) (cs : List Contour) (sum sum' : ℤ) (k : ℕ) (d : Contour) → k < length cs → Summed ps cs sum k
    → sum' ≡ sum +ℤ contour_area (points_of ps (get_or cs k d)) → nat_abs sum' ≤ nat_abs sum + 2 ^ 32 * length (points_of ps (get_or cs k d))
    → Summed ps cs sum' (k + 1)
summed_more ps cs sum sum' k d in' w e small =
    let c = get_or cs k d in
    let t = turn (length ps) cs k w.from d in' w.tiles in
    let qs = points_of ps c in
    let long = length-points ps c t.fits in
    let one = area_first qs (cut_out (drop (k + 1) cs) ps) in
    let g = grouped sum (contour_area qs) (total_area (cut_out (drop (k + 1) cs) ps)) in
    let left = t.left in
    let old = w.so_far in
    record { from = c.end; tiles = t.rest; so_far = cc; bound = omega (arith, w.bound, t.here, t.some) }

no_more : (z : ℤ) → z +ℤ pos 0 ≡ z
no_more z = omega (arith, ints)

pub summed_all : (ps : List DrawnPoint) (cs : List Contour) (sum : ℤ) (k : ℕ) → length cs ≤ k → Summed ps cs sum k → sum ≡ total_area (cut_out cs ps)
unfolding total_area
summed_all ps cs sum k done w =
    let none = drop_all k cs done in
    let old = w.so_far in
    let nil = no_more sum in
    cc
