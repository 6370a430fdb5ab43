-- One turn of the dealing.
use Rattle.std.proofs.Common.{◌≡◌, ℕ, ◌+◌, ◌<◌, ◌≤◌, List, [], ◌∷◌, length, get_or, drop, refl}
use Rattle.std.proofs.lemmas.List.{drop_more, drop_all}
use Rattle.walk.specs.declared.legs.Leg.{Leg}
use Rattle.walk.specs.declared.marks.Mark.{Mark}
use Rattle.walk.specs.Steps.{following}
use Rattle.walk.specs.Marks.{join, last_end, dealt, dealt_all}

dealt-cons : (n s e i : ℕ) (l : Leg) (ls : List Leg) (ms : List Mark)
    → dealt_all n s e i (l ∷ ls) ms ≡ dealt_all n s (last_end e (following n i) l) (following n i) ls (dealt e i (following n i) l ms)
unfolding dealt_all
dealt-cons n s e i l ls ms = refl

dealt-nil : (n s e i : ℕ) (ms : List Mark) → dealt_all n s e i [] ms ≡ join e s ms
unfolding dealt_all
dealt-nil n s e i ms = refl

pub dealt-more : (n s e i k : ℕ) (ls : List Leg) (ms : List Mark) (d : Leg) (j e' : ℕ) (xs : List Mark)
    → k < length ls → j ≡ following n i → e' ≡ last_end e j (get_or ls k d) → xs ≡ dealt e i j (get_or ls k d) ms
    → dealt_all n s e' j (drop (k + 1) ls) xs ≡ dealt_all n s e i (drop k ls) ms
dealt-more n s e i k ls ms d j e' xs more a b c =
    let first = dealt-cons n s e i (get_or ls k d) (drop (k + 1) ls) ms in
    let left = drop_more ls k d more in
    cc

pub dealt-done : (n s e i k : ℕ) (ls : List Leg) (ms xs : List Mark) → length ls ≤ k → xs ≡ join e s ms
    → xs ≡ dealt_all n s e i (drop k ls) ms
dealt-done n s e i k ls ms xs done a =
    let none = drop_all k ls done in
    let last = dealt-nil n s e i ms in
    cc
