-- Points within ±16,383: the test that a drawing's type holds, and what it says.
use Rattle.std.proofs.Common.{◌≡◌, ℕ, ◌≤◌, true, leb, List, [], ◌∷◌, ◌++◌, set, nat_abs, Decides, refl}
use Rattle.std.specs.List.{between, AllByRecursion}
use Rattle.std.proofs.ByRecursion.{All-append, All-take, All-drop, All-set, Decides-by_and}
use Rattle.std.proofs.lemmas.Bool.{leb-true, le-leb}
use Rattle.std.proofs.lemmas.Bool.Decides.{Decides-and}
use Rattle.outline.specs.declared.points.DrawnPoint.{DrawnPoint}
use Rattle.analysis.specs.Outlines.{Small}
use Rattle.drawing.specs.Ranges.{is_inside, all_inside}

decides_leb : (a b : ℕ) → Decides (leb a b) (a ≤ b)
decides_leb a b = (leb-true a b, le-leb a b)

pub decides_inside : (p : DrawnPoint) → Decides (is_inside p) (Small p)
decides_inside p = Decides-and _ _ (decides_leb (nat_abs p.x) 16383) (decides_leb (nat_abs p.y) 16383)

pub decides_all_inside : (ps : List DrawnPoint) → Decides (all_inside ps) (AllByRecursion Small ps)
decides_all_inside ps = Decides-by_and is_inside Small all_inside decides_inside refl (λ _ _. refl) ps

pub inside-append : (ps qs all : List DrawnPoint) → all_inside ps ≡ true → all_inside qs ≡ true → all ≡ ps ++ qs → all_inside all ≡ true
inside-append ps qs all p q e =
    rw e ((decides_all_inside (ps ++ qs)).1 (All-append Small ps qs ((decides_all_inside ps).0 p) ((decides_all_inside qs).0 q)))

pub inside_push : (ps all : List DrawnPoint) (q : DrawnPoint) → all_inside ps ≡ true → is_inside q ≡ true → all ≡ ps ++ q ∷ [] → all_inside all ≡ true
inside_push ps all q p h e = inside-append ps (q ∷ []) all p (rw h) e

pub inside_between : (f e : ℕ) (ps : List DrawnPoint) → all_inside ps ≡ true → all_inside (between f e ps) ≡ true
inside_between f e ps p = (decides_all_inside (between f e ps)).1 (All-take Small _ _ (All-drop Small f ps ((decides_all_inside ps).0 p)))

pub inside-set : (ps : List DrawnPoint) (i : ℕ) (q : DrawnPoint) → all_inside ps ≡ true → is_inside q ≡ true → all_inside (set ps i q) ≡ true
inside-set ps i q p h = (decides_all_inside (set ps i q)).1 (All-set Small ps i q ((decides_inside q).0 h) ((decides_all_inside ps).0 p))
