-- One turn of the way back, at j.
use Rattle.std.proofs.Common.{◌≡◌, ℕ, ◌+◌, ◌<◌, ◌≤◌, List, [], ◌∷◌, length, get_or, take, drop, set, sym, refl, ap, arith}
use Rattle.std.proofs.lemmas.List.{take-set, take-take, drop-set, drop_more, drop_all, get_or-take}
use Rattle.outline.specs.declared.directions.Direction.{Direction}
use Rattle.outline.specs.declared.directions.Direction.TheVariants.{None}
use Rattle.walk.specs.declared.legs.Leg.{Leg}
use Rattle.walk.specs.Legs.{spread, first_dir, in_sum}

-- what holds when the way back has come to k
pub record Back (ls ms : List Leg) (k : ℕ) (dir : Direction) : Type 0 where
  pub front : take k ms ≡ take k ls
  pub back : drop k ms ≡ spread (drop k ls)
  pub first : dir ≡ first_dir (spread (drop k ls))

pub spread-cons : (l : Leg) (ls : List Leg) → spread (l ∷ ls) ≡ in_sum (first_dir (spread ls)) l ∷ spread ls
unfolding spread
spread-cons l ls = refl

pub back_none : (ls : List Leg) → Back ls ls (length ls) None
unfolding spread
back_none ls =
    let e : drop (length ls) ls ≡ [] = drop_all (length ls) ls (omega arith) in
    record { front = refl; back = rw e; first = rw e }

pub back_more : (ls ms : List Leg) (k j : ℕ) (dir : Direction) (d leg : Leg)
    → k ≡ j + 1 → k ≤ length ls → length ms ≡ length ls
    → Back ls ms k dir → leg ≡ in_sum dir (get_or ms j d)
    → Back ls (set ms j leg) j leg.dir
back_more ls ms k j dir d leg at within same b e =
    let in-l : j < length ls = omega arith in
    let in-m : j < length ms = omega arith in
    let a₁ = get_or-take k ms j d (omega arith) in
    let a₂ = get_or-take k ls j d (omega arith) in
    let f = b.front in
    let r = b.back in
    let first = b.first in
    let here : get_or ms j d ≡ get_or ls j d = cc in
    let c₁ = take-set ms j leg in
    let t₁ = take-take j k ms (omega arith) in
    let t₂ = take-take j k ls (omega arith) in
    let b₁ = drop-set ms j leg in-m in
    let b₂ = drop_more ls j d in-l in
    let s = spread-cons (get_or ls j d) (drop (j + 1) ls) in
    let done : spread (drop j ls) ≡ leg ∷ spread (drop k ls) = cc in
    record { front = cc; back = cc; first = sym (ap first_dir done) }

pub back-all : (ls ms : List Leg) (k : ℕ) (dir : Direction) → k ≤ 0 → Back ls ms k dir → ms ≡ spread ls
back-all ls ms k dir z b =
    let e : k ≡ 0 = omega arith in
    let r : drop 0 ms ≡ spread (drop 0 ls) = rw e at b.back in
    r
