-- Laws of contours that cover points one after another.
use Rattle.std.proofs.Common.{◌≡◌, ℕ, zero, suc, ◌+◌, ◌-◌, ◌<◌, ◌≤◌, true, List, [], ◌∷◌, ◌++◌, length, get_or, take, drop, set, Decides, sym, refl, ap, ◌∙◌, zero-add, arith}
use lib.Seq.{take-append-le}
use Rattle.std.specs.List.{between}
use Rattle.std.proofs.lemmas.Bool.Decides.{Decides-eqb, Decides-ltb, Decides-and}
use Rattle.std.proofs.lemmas.List.Edits.{between_more}
use Rattle.std.proofs.lemmas.Slice.{between_is}
use Rattle.std.proofs.lemmas.List.{get_or_push, length_push, map_push, drop_at, take_all}
use Rattle.outline.specs.declared.contours.Contour.{Contour}
use Rattle.outline.specs.declared.points.DrawnPoint.{DrawnPoint}
use Rattle.analysis.specs.Outlines.{Tiles, points_of, cut_out, point_count}
use Rattle.analysis.proofs.Tilings.{tiles_le, length-points}
use Rattle.drawing.specs.Tilings.{tiles}
use Rattle.drawing.specs.Placing.{lengthened}

pub decides_tiles : (b n : ℕ) (cs : List Contour) → Decides (tiles b n cs) (Tiles b n cs)
decides_tiles b n [] = Decides-eqb b n
decides_tiles b n (c ∷ cs) =
    let head = Decides-and _ _ (Decides-eqb c.first b) (Decides-ltb c.first c.end) in
    let all = Decides-and _ _ head (decides_tiles c.end n cs) in
    ((λ t. let h = all.0 t in (h.0.0, h.0.1, h.1)), (λ h. all.1 ((h.0, h.1), h.2)))

-- one contour more
pub tiles_push : (b n e : ℕ) (cs : List Contour) → Tiles b n cs → n < e → Tiles b e (cs ++ record { first = n; end = e } ∷ [])
tiles_push b n e [] h l = (sym h, l, refl)
tiles_push b n e (c ∷ cs) h l = (h.0, h.1, tiles_push c.end n e cs h.2 l)

-- the last contour is one point longer
pub tiles_grow : (b n k f : ℕ) (cs : List Contour) (d : Contour) → Tiles b n cs → length cs ≡ suc k
    → f ≡ (get_or cs k d).first → Tiles b (n + 1) (set cs k (record { first = f; end = n + 1 }))
tiles_grow b n k f [] d h l e = absurd (omega (arith, l))
tiles_grow b n zero f (c ∷ []) d h l e = (cc, omega (arith, e, h.1, h.2), refl)
tiles_grow b n (suc k) f (c ∷ []) d h l e = absurd (omega (arith, l))
tiles_grow b n zero f (c ∷ (m ∷ cs)) d h l e = absurd (omega (arith, l))
tiles_grow b n (suc k) f (c ∷ (m ∷ cs)) d h l e =
    (h.0, h.1, tiles_grow c.end n k f (m ∷ cs) d h.2 (omega (arith, l)) e)

-- points that come after do not matter
between_before : (f e : ℕ) (ps qs : List DrawnPoint) → e ≤ length ps → between f e (ps ++ qs) ≡ between f e ps
between_before f e ps qs h = between_is (ps ++ qs) f e ∙ (ap (λ (x : List DrawnPoint). drop f x) (take-append-le e ps qs h) ∙ sym (between_is ps f e))

pub cut_out-before : (b n : ℕ) (cs : List Contour) (ps qs : List DrawnPoint) → Tiles b n cs → n ≤ length ps → cut_out cs (ps ++ qs) ≡ cut_out cs ps
cut_out-before b n [] ps qs h l = refl
cut_out-before b n (c ∷ cs) ps qs h l =
    let le = tiles_le c.end n cs h.2 in
    let one = between_before c.first c.end ps qs (omega (arith, le, l)) in
    let more = cut_out-before c.end n cs ps qs h.2 l in
    cc

-- a contour more
pub cut_out_push : (b n e : ℕ) (cs : List Contour) (ps more : List DrawnPoint) → Tiles b n cs → length ps ≡ n → e ≡ n + length more
    → cut_out (cs ++ record { first = n; end = e } ∷ []) (ps ++ more) ≡ cut_out cs ps ++ more ∷ []
cut_out_push b n e cs ps more h l end =
    let rest = drop_at ps more n l in
    let whole = take_all (e - n) more (omega arith) in
    let alone : between n e (ps ++ more) ≡ more = ap (λ (x : List DrawnPoint). take (e - n) x) rest ∙ whole in
    let before = cut_out-before b n cs ps more h (omega (arith, l)) in
    let pushed = map_push (points_of (ps ++ more)) cs (record { first = n; end = e }) in
    cc

-- a point that lengthens the last contour
pub cut_out_grow : (b n k f : ℕ) (cs : List Contour) (d : Contour) (ps : List DrawnPoint) (q : DrawnPoint) → Tiles b n cs → length ps ≡ n
    → length cs ≡ suc k → f ≡ (get_or cs k d).first
    → cut_out (set cs k (record { first = f; end = n + 1 })) (ps ++ q ∷ []) ≡ lengthened (cut_out cs ps) q
cut_out_grow b n k f [] d ps q h l s e = absurd (omega (arith, s))
cut_out_grow b n zero f (c ∷ []) d ps q h l s e =
    let more = between_more (ps ++ q ∷ []) f n q (omega (arith, e, h.1, h.2)) (simp length_push (omega (arith, l))) in
    let it = get_or_push ps q q n l in
    let before = between_before f n ps (q ∷ []) (omega (arith, l)) in
    let ends : c.end ≡ n = h.2 in
    let grown : between f (n + 1) (ps ++ q ∷ []) ≡ between c.first c.end ps ++ q ∷ [] = cc in
    ap (λ (x : List DrawnPoint). x ∷ []) grown
cut_out_grow b n (suc k) f (c ∷ []) d ps q h l s e = absurd (omega (arith, s))
cut_out_grow b n zero f (c ∷ (m ∷ cs)) d ps q h l s e = absurd (omega (arith, s))
cut_out_grow b n (suc k) f (c ∷ (m ∷ cs)) d ps q h l s e =
    let le = tiles_le c.end n (m ∷ cs) h.2 in
    let one = between_before c.first c.end ps (q ∷ []) (omega (arith, le, l)) in
    let more = cut_out_grow c.end n k f (m ∷ cs) d ps q h.2 l (omega (arith, s)) e in
    cc

-- how a drawing takes in a contour, and a point into its last, over its lists before and after
pub pushed_tiles : (n n' at end : ℕ) (cs cs' : List Contour) → tiles 0 n cs ≡ true → at ≡ n → n < end → n' ≡ end
    → cs' ≡ cs ++ record { first = at; end = end } ∷ [] → tiles 0 n' cs' ≡ true
pushed_tiles n n' at end cs cs' t a l e p =
    (decides_tiles 0 n' cs').1 (rw (p, e, a) (tiles_push 0 n end cs ((decides_tiles 0 n cs).0 t) l))

pub pushed_book : (n at end : ℕ) (cs cs' : List Contour) (ps ps' more : List DrawnPoint) → tiles 0 n cs ≡ true → at ≡ n
    → n ≡ length ps → end ≡ n + length more → cs' ≡ cs ++ record { first = at; end = end } ∷ [] → ps' ≡ ps ++ more
    → cut_out cs' ps' ≡ cut_out cs ps ++ more ∷ []
pushed_book n at end cs cs' ps ps' more t a l e p r =
    rw (p, r, a) (cut_out_push 0 n end cs ps more ((decides_tiles 0 n cs).0 t) (sym l) e)

pub grown_tiles : (n n' end k f : ℕ) (cs : List Contour) (d : Contour) → tiles 0 n cs ≡ true → end ≡ n + 1 → n' ≡ n + 1
    → length cs ≡ suc k → f ≡ (get_or cs k d).first → tiles 0 n' (set cs k (record { first = f; end = end })) ≡ true
grown_tiles n n' end k f cs d t a e l h =
    (decides_tiles 0 n' (set cs k (record { first = f; end = end }))).1 (rw (a, e) (tiles_grow 0 n k f cs d ((decides_tiles 0 n cs).0 t) l h))

pub grown_book : (n end k f : ℕ) (cs : List Contour) (d : Contour) (ps ps' : List DrawnPoint) (q : DrawnPoint) → tiles 0 n cs ≡ true → end ≡ n + 1
    → n ≡ length ps → length cs ≡ suc k → f ≡ (get_or cs k d).first → ps' ≡ ps ++ q ∷ []
    → cut_out (set cs k (record { first = f; end = end })) ps' ≡ lengthened (cut_out cs ps) q
grown_book n end k f cs d ps ps' q t a m l h r =
    rw (a, r) (cut_out_grow 0 n k f cs d ps q ((decides_tiles 0 n cs).0 t) (sym m) l h)

-- what a drawing holds, as the layers above ask for it
pub told-tiles : (n m : ℕ) (cs cs' : List Contour) → tiles 0 n cs ≡ true → m ≡ n → cs' ≡ cs → Tiles 0 m cs'
told-tiles n m cs cs' t e c = rw (e, c) ((decides_tiles 0 n cs).0 t)

-- the points of contours that cover all points
counted : (b n : ℕ) (cs : List Contour) (ps : List DrawnPoint) → Tiles b n cs → n ≤ length ps → point_count (cut_out cs ps) + b ≡ n
counted b n [] ps h l = simp zero-add h
counted b n (c ∷ cs) ps h l =
    let le = tiles_le c.end n cs h.2 in
    let own = length-points ps c (omega (arith, le, l)) in
    omega (arith, own, counted c.end n cs ps h.2 l, h.0, h.1)

pub told-points : (n : ℕ) (cs : List Contour) (ps : List DrawnPoint) → tiles 0 n cs ≡ true → n ≡ length ps → n ≡ point_count (cut_out cs ps)
told-points n cs ps t l = omega (arith, counted 0 n cs ps ((decides_tiles 0 n cs).0 t) (omega (arith, l)))
