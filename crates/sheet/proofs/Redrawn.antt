-- Contours that a sheet can hold are drawn anew by one place for each, every one of them granted.
use Rattle.std.proofs.Common.{◌≡◌, ℕ, suc, ◌+◌, ◌-◌, ◌<◌, ◌≤◌, Bool, true, false, ◌&&◌, ◌||◌, eqb, ltb, List, [], ◌∷◌, ◌++◌, map, length, Ok, sym, refl, ap, ◌∙◌, append_assoc, arith, length-append, le-ltb, lt-ltb, ne_eqb}
use lib.ListN.{length-map}
use Rattle.std.specs.List.{AllByRecursion}
use Rattle.std.proofs.lemmas.List.{append-nil, length_push}
use Rattle.outline.specs.declared.points.DrawnPoint.{DrawnPoint}
use Rattle.unscaled.specs.Placements.{in_range}
use Rattle.analysis.specs.Outlines.{Contours, Small, point_count}
use Rattle.analysis.proofs.Standing.{point_count-append}
use Rattle.drawing.specs.declared.faults.EditFault.{EditFault}
use Rattle.drawing.specs.declared.faults.EditFault.TheVariants.{TooManyContours}
use Rattle.drawing.specs.Placing.{drawn_from}
use Rattle.drawing.proofs.Held.{Fit}
use Rattle.drawing.proofs.Insides.{decides_inside, decides_all_inside}
use Rattle.sheet.specs.Book.{Call, placing, outcome, unscaled, tabled, next, book_after, Redraws}

inside : (p : DrawnPoint) → Small p → (in_range p.x && in_range p.y) ≡ true
inside p h = (decides_inside p).1 h

-- points that are not marked lengthen the contour
drawn-rest : (most : ℕ) (beyond : EditFault) (a c : List DrawnPoint) → AllByRecursion Small c → 0 < length a
    → drawn_from most beyond (a ∷ []) (map (unscaled false) c) ≡ Ok ((a ++ c) ∷ [])
drawn-rest most beyond a [] h l = ap (λ (x : List DrawnPoint). Ok (x ∷ [])) (sym (append-nil a))
drawn-rest most beyond a (p ∷ c) h l =
    rw (inside p h.0) (drawn-rest most beyond (a ++ p ∷ []) c h.1 (simp length-append (omega arith)) ∙ ap (λ (x : List DrawnPoint). Ok (x ∷ [])) (append_assoc a (p ∷ []) c))

first-opens : (start : Bool) → (start || true) ≡ true
first-opens true = refl
first-opens false = refl

drawn-one : (most : ℕ) (beyond : EditFault) (start : Bool) (p : DrawnPoint) (c : List DrawnPoint) → AllByRecursion Small (p ∷ c) → 0 < most
    → drawn_from most beyond [] (tabled start (p ∷ c)) ≡ Ok ((p ∷ c) ∷ [])
drawn-one most beyond start p c h l =
    rw (inside p h.0, first-opens start, lt-ltb 0 most l) (drawn-rest most beyond (p ∷ []) c h.1 (omega arith))

length-tabled : (start : Bool) (c : List DrawnPoint) → length (tabled start c) ≡ length c
length-tabled start [] = refl
length-tabled start (p ∷ c) = ap suc (length-map c (unscaled false))

placed_one : (pre : Contours) (start : Bool) (p : DrawnPoint) (c : List DrawnPoint) → AllByRecursion Small (p ∷ c) → point_count pre + length (p ∷ c) ≤ 2048 → length pre < 128
    → outcome pre (placing (tabled start (p ∷ c))) ≡ Ok (pre ++ (p ∷ c) ∷ [])
placed_one pre start p c h few room =
    let l = length-tabled start (p ∷ c) in
    let some : eqb (length (tabled start (p ∷ c))) 0 ≡ false = ne_eqb _ _ (λ e. omega (arith, e)) in
    let fits : ltb 2048 (point_count pre + length (tabled start (p ∷ c))) ≡ false = le-ltb _ _ (omega arith) in
    rw (some, fits, drawn-one (128 - length pre) TooManyContours start p c h (omega arith))

pub redrawn : (pre cs : Contours) (qs : List Call) → Redraws qs cs → AllByRecursion Fit cs → point_count pre + point_count cs ≤ 2048 → length pre + length cs ≤ 128
    → book_after pre qs ≡ pre ++ cs
redrawn pre [] [] d f few room = sym (append-nil pre)
redrawn pre [] (q ∷ qs) d f few room = absurd d
redrawn pre (c ∷ cs) [] d f few room = absurd d
redrawn pre ([] ∷ cs) (q ∷ qs) d f few room = absurd (omega (arith, f.0.some))
redrawn pre ((p ∷ c) ∷ cs) (q ∷ qs) d f few room =
    let small = (decides_all_inside (p ∷ c)).0 f.0.inside in
    let one = placed_one pre d.0.0 p c small (omega arith) (omega arith) in
    let step : next pre q ≡ pre ++ (p ∷ c) ∷ [] = rw (d.0.1, one) in
    let count = point_count-append pre ((p ∷ c) ∷ []) in
    let longer = length_push pre (p ∷ c) in
    ap (λ (b : Contours). book_after b qs) step
    ∙ (redrawn (pre ++ (p ∷ c) ∷ []) cs qs d.1 f.1 (omega arith) (omega arith) ∙ append_assoc pre ((p ∷ c) ∷ []) cs)
