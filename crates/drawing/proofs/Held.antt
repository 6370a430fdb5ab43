-- What a drawing holds, by its contours.
use Rattle.std.proofs.Common.{◌≡◌, ℕ, zero, suc, ◌+◌, ◌-◌, ◌<◌, ◌≤◌, true, List, [], ◌∷◌, length, get_or, set, vec_items, vec_len, sym, refl, ap, ◌∙◌, arith}
use lib.ListN.{length-map}
use Rattle.std.specs.List.{between, AllByRecursion}
use Rattle.std.proofs.ByRecursion.{All-get_or}
use Rattle.std.proofs.lemmas.List.{get_or-map}
use Rattle.outline.specs.declared.contours.Contour.{Contour}
use Rattle.outline.specs.declared.points.DrawnPoint.{DrawnPoint}
use Rattle.analysis.specs.Outlines.{Tiles, points_of, cut_out, point_count, first_of}
use Rattle.analysis.proofs.Tilings.{tiles_le, length-points}
use Rattle.drawing.specs.declared.drawings.Drawing.{Drawing}
use Rattle.drawing.specs.Books.{book}
use Rattle.drawing.specs.Ranges.{all_inside}
use Rattle.drawing.proofs.Insides.{inside_between}
use Rattle.drawing.proofs.Joined.{tiles_from, cut_out-set}
use Rattle.drawing.proofs.Tiled.{told-tiles, told-points}

-- a contour of a drawing: it has points, all within ±16,383
pub record Fit (c : List DrawnPoint) : Type 0 where
  pub some : 0 < length c
  pub inside : all_inside c ≡ true

all_fit : (b n : ℕ) (cs : List Contour) (ps : List DrawnPoint) → Tiles b n cs → n ≤ length ps → all_inside ps ≡ true → AllByRecursion Fit (cut_out cs ps)
all_fit b n [] ps t l h = tt
all_fit b n (c ∷ cs) ps t l h =
    let le = tiles_le c.end n cs t.2 in (
      record { some = omega (arith, length-points ps c (omega (arith, le, l)), t.1); inside = inside_between c.first c.end ps h },
      all_fit c.end n cs ps t.2 l h,
    )

first_counted : (b n k : ℕ) (cs : List Contour) (c : Contour) (ps : List DrawnPoint) → Tiles b n cs → n ≤ length ps → k < length cs
    → (get_or cs k c).first ≡ b + first_of (cut_out cs ps) k
first_counted b n k [] c ps t l h = absurd (omega arith)
first_counted b n zero (x ∷ cs) c ps t l h = omega (arith, t.0)
first_counted b n (suc k) (x ∷ cs) c ps t l h =
    let own = length-points ps x (omega (arith, tiles_le x.end n cs t.2, l)) in
    omega (arith, own, first_counted x.end n k cs c ps t.2 l (omega arith), t.0, t.1)

module _ (d : Drawing) where
  pub tiled : Tiles 0 (length (vec_items d.points)) (vec_items d.contours)
  tiled = told-tiles (vec_len d.points) _ (vec_items d.contours) _ d.tiled (sym d.points.ok.0) refl

  pub points-held : point_count (book d) ≡ vec_len d.points
  points-held = sym (told-points _ _ _ d.tiled d.points.ok.0)

  pub contours-held : length (book d) ≡ vec_len d.contours
  contours-held = length-map _ _ ∙ sym d.contours.ok.0

  pub fits : AllByRecursion Fit (book d)
  fits = all_fit 0 (length (vec_items d.points)) (vec_items d.contours) (vec_items d.points) tiled (omega arith) d.inside

  pub contour-fits : (k : ℕ) → k < length (book d) → Fit (get_or (book d) k [])
  contour-fits k h = All-get_or Fit (book d) k [] h fits

  -- where contour k stands among the points
  module _ (k : ℕ) (h : k < length (book d)) (c : Contour) (is : c ≡ get_or (vec_items d.contours) k c) where
    pub below : k < vec_len d.contours
    below = omega (arith, contours-held)

    within : k < length (vec_items d.contours)
    within = omega (arith, below, d.contours.ok.0)

    span : (0 ≤ (get_or (vec_items d.contours) k c).first) × ((get_or (vec_items d.contours) k c).first < (get_or (vec_items d.contours) k c).end)
        × ((get_or (vec_items d.contours) k c).end ≤ length (vec_items d.points))
    span = tiles_from 0 (length (vec_items d.points)) k (vec_items d.contours) c tiled within

    pub some : c.first < c.end
    some = omega (arith, ap (λ (x : Contour). x.first) is, ap (λ (x : Contour). x.end) is, span.1)

    pub ends : c.end ≤ vec_len d.points
    ends = omega (arith, ap (λ (x : Contour). x.end) is, span.2, d.points.ok.0)

    pub own : get_or (book d) k [] ≡ between c.first c.end (vec_items d.points)
    own = get_or-map (points_of (vec_items d.points)) (vec_items d.contours) k c [] within ∙ ap (points_of (vec_items d.points)) (sym is)

    -- its first point comes after those of the contours before it
    pub first_is : c.first ≡ first_of (book d) k
    first_is = omega (arith, ap (λ (x : Contour). x.first) is, first_counted 0 (length (vec_items d.points)) k (vec_items d.contours) c (vec_items d.points) tiled (omega arith) within)

    pub own-length : length (get_or (book d) k []) ≡ c.end - c.first
    own-length = ap length own ∙ length-points (vec_items d.points) c (omega (arith, ends, d.points.ok.0))

    -- point j of it in the place of another
    pub moved : (j : ℕ) (q : DrawnPoint) (ps : List DrawnPoint) → j < length (get_or (book d) k []) → ps ≡ set (vec_items d.points) (c.first + j) q
        → cut_out (vec_items d.contours) ps ≡ set (book d) k (set (get_or (book d) k []) j q)
    moved j q ps l e =
        let old = vec_items d.points in
        let cs = vec_items d.contours in
        let j-below : j < (get_or cs k c).end - (get_or cs k c).first = omega (arith, l, own-length, ap (λ (x : Contour). x.first) is, ap (λ (x : Contour). x.end) is) in
        let at = ap (λ (x : Contour). set old (x.first + j) q) is in
        let out = cut_out-set 0 (length old) k j cs c old q tiled (omega arith) within j-below in
        let here = get_or-map (points_of old) cs k c [] within in
        cc
