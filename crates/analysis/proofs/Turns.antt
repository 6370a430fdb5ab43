-- One turn of the sum of a contour's terms.
use Rattle.std.proofs.Common.{◌≡◌, ℕ, ◌+◌, ◌<◌, ◌≤◌, List, [], ◌∷◌, length, get_or, drop, ℤ, pos, ◌+ℤ◌, arith}
use Rattle.std.proofs.lemmas.List.{drop_more, drop_all}
use Rattle.std.proofs.lemmas.Int.{ints}
use Rattle.outline.specs.declared.points.DrawnPoint.{DrawnPoint}
use Rattle.analysis.specs.Areas.{term, terms, last_of, contour_area}

pub grouped : (a b c : ℤ) → (a +ℤ b) +ℤ c ≡ a +ℤ (b +ℤ c)
grouped a b c = omega (arith, ints)

-- what is left of the points, after the point p, gives what is left of the sum
unfoldable pub left_of : ℤ → DrawnPoint → List DrawnPoint → ℤ
left_of a p ps = a +ℤ terms p.x p.y ps

turned_left : (a : ℤ) (p q : DrawnPoint) (ps : List DrawnPoint) → left_of (a +ℤ term p.x p.y q.x q.y) q ps ≡ left_of a p (q ∷ ps)
unfolding left_of terms
turned_left a p q ps = grouped a (term p.x p.y q.x q.y) (terms q.x q.y ps)

pub turns_more : (ps : List DrawnPoint) (i : ℕ) (d p : DrawnPoint) (a b : ℤ) → i < length ps
    → b ≡ a +ℤ term p.x p.y (get_or ps i d).x (get_or ps i d).y
    → left_of b (get_or ps i d) (drop (i + 1) ps) ≡ left_of a p (drop i ps)
turns_more ps i d p a b in' e =
    let more = drop_more ps i d in' in
    let one = turned_left a p (get_or ps i d) (drop (i + 1) ps) in
    cc

no_more : (a : ℤ) (p : DrawnPoint) → left_of a p [] ≡ a
unfolding left_of terms
no_more a p = omega (arith, ints)

begins : (ps : List DrawnPoint) → left_of (pos 0) (last_of ps) ps ≡ contour_area ps
unfolding left_of
begins ps = omega (arith, ints)

pub turns_all : (ps : List DrawnPoint) (i : ℕ) (p : DrawnPoint) (a : ℤ) → length ps ≤ i → left_of a p (drop i ps) ≡ left_of (pos 0) (last_of ps) ps
    → a ≡ contour_area ps
turns_all ps i p a done e =
    let none = drop_all i ps done in
    let last = no_more a p in
    let first = begins ps in
    cc
