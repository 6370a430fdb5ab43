-- One point moved: the book, and the records of its contour.
use Rattle.std.proofs.Common.{◌≡◌, ℕ, ◌+◌, ◌<◌, Bool, true, ltb, List, [], ◌∷◌, ◌++◌, length, get_or, take, drop, set, ℤ, Ok, sym, ap, ◌∙◌, add-one, arith, lt-ltb}
use Rattle.std.proofs.lemmas.List.{take-append-drop, drop_more, set_split, take-set-le, get_or-set_same}
use Rattle.outline.specs.declared.points.DrawnPoint.{DrawnPoint}
use Rattle.outline.specs.declared.points.Point.{Point}
use Rattle.analysis.specs.Outlines.{Contours, point_count, first_of, outline_records}
use Rattle.analysis.proofs.Standing.{records_changed}
use Rattle.drawing.specs.Changes.{contour_replaced}
use Rattle.drawing.specs.Placing.{admitted}
use Rattle.sheet.specs.Book.{moving, moved_to, outcome}

pub move_granted : (cs : Contours) (k j : ℕ) (x y : ℤ) (q : DrawnPoint) → k < length cs → j < length (get_or cs k [])
    → Ok q ≡ admitted (moved_to (get_or cs k []) j x y) → outcome cs (moving k j x y) ≡ Ok (set cs k (set (get_or cs k []) j q))
move_granted cs k j x y q h l a =
    let there : ltb k (length cs) ≡ true = lt-ltb k (length cs) h in
    let within : ltb j (length (get_or cs k [])) ≡ true = lt-ltb j (length (get_or cs k [])) l in
    rw (there, within, ← a)

-- where contour k has as many points as before, its own records are the only ones that change
pub moved-records : (F : ℤ → ℤ → ℤ → ℤ → Bool) (N : ℕ) (cs bs : Contours) (k : ℕ) (c : List DrawnPoint) (old new : List Point) → k < length cs
    → length c ≡ length (get_or cs k []) → bs ≡ set cs k c → old ≡ outline_records F N 0 cs → new ≡ contour_replaced F N bs k old
    → new ≡ outline_records F N 0 bs
moved-records F N cs bs k c old new h same b e r =
    let whole : cs ≡ take k cs ++ (get_or cs k [] ∷ drop (k + 1) cs) = sym (take-append-drop k cs) ∙ ap (λ (x : Contours). take k cs ++ x) (drop_more cs k [] h) in
    let changed : set cs k c ≡ take k cs ++ (c ∷ drop (k + 1) cs) = set_split cs k c h ∙ ap (λ (n : ℕ). take k cs ++ (c ∷ drop n cs)) (sym (add-one k)) in
    let first : first_of bs k ≡ point_count (take k cs) = ap (λ (x : Contours). point_count (take k x)) b ∙ ap point_count (take-set-le k cs k c (omega arith)) in
    let own : get_or bs k [] ≡ c = ap (λ (x : Contours). get_or x k []) b ∙ get_or-set_same cs k c [] h in
    let there : old ≡ outline_records F N 0 (take k cs ++ (get_or cs k [] ∷ drop (k + 1) cs)) = e ∙ ap (outline_records F N 0) whole in
    let step = records_changed F N (take k cs) (drop (k + 1) cs) (get_or cs k []) c same old there in
    rw (r, first, own, b, changed) step
