-- Where a drawing's contours lie, by its contours.
use Rattle.std.proofs.Common.{◌≡◌, ℕ, ◌+◌, ◌≤◌, List, [], ◌∷◌, length, vec_items, refl, arith}
use Rattle.outline.specs.declared.contours.Contour.{Contour}
use Rattle.outline.specs.declared.points.DrawnPoint.{DrawnPoint}
use Rattle.analysis.specs.Outlines.{Tiles, cut_out, points_of}
use Rattle.analysis.proofs.Tilings.{tiles_le, length-points}
use Rattle.segments.specs.Readings.{Inside}
use Rattle.drawing.specs.declared.drawings.Drawing.{Drawing}
use Rattle.drawing.specs.Books.{book}
use Rattle.drawing.proofs.Held.{tiled}
use Rattle.sheet.specs.Book.{spans}

joined : (b : ℕ) (c : Contour) (cs ds : List Contour) → c.first ≡ b → cs ≡ ds → record { first = c.first; end = c.end } ∷ cs ≡ record { first = b; end = c.end } ∷ ds
joined b c cs ds p q = cc

spanned : (b n : ℕ) (cs : List Contour) (ps : List DrawnPoint) → Tiles b n cs → n ≤ length ps → cs ≡ spans b (cut_out cs ps)
spanned b n [] ps t l = refl
spanned b n (c ∷ cs) ps t l =
    let end : b + length (points_of ps c) ≡ c.end = omega (arith, length-points ps c (omega (arith, tiles_le c.end n cs t.2, l)), t.0, t.1) in
    let more = spanned c.end n cs ps t.2 l in
    rw end (joined b c cs (spans c.end (cut_out cs ps)) t.0 more)

pub drawing-spans : (d : Drawing) → vec_items d.contours ≡ spans 0 (book d)
drawing-spans d = spanned 0 (length (vec_items d.points)) (vec_items d.contours) (vec_items d.points) (tiled d) (omega arith)

tiles-inside : (b n : ℕ) (cs : List Contour) → Tiles b n cs → Inside n cs
tiles-inside b n [] h = tt
tiles-inside b n (c ∷ cs) h = (omega (arith, h.1), tiles_le c.end n cs h.2, tiles-inside c.end n cs h.2)

pub drawing-inside : (d : Drawing) → Inside (length (vec_items d.points)) (vec_items d.contours)
drawing-inside d = tiles-inside 0 (length (vec_items d.points)) (vec_items d.contours) (tiled d)
