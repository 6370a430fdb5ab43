-- The entries in the bytes of points.
use Rattle.std.proofs.Common.{◌≡◌, ℕ, zero, suc, ◌+◌, ◌*◌, ◌/◌, ◌<◌, ◌≤◌, List, [], ◌∷◌, length, get_or, sym, refl, ap, add-zero, zero-add, arith}
use Rattle.std.proofs.lemmas.List.{get_or_past}
use Rattle.std.specs.Simd.{first_chunks}
use Rattle.unscaled.specs.Entries.{Entry}
use Rattle.unscaled.specs.Records.{byte, entries_from, entries, entry_of}

pub length_entries : (s : ℕ) (bs : List ℕ) → length (entries_from s bs) ≡ length bs / 5
unfolding entries_from
length_entries s [] = refl
length_entries s (a ∷ []) = refl
length_entries s (a ∷ (b ∷ [])) = refl
length_entries s (a ∷ (b ∷ (c ∷ []))) = refl
length_entries s (a ∷ (b ∷ (c ∷ (d ∷ [])))) = refl
length_entries s (a ∷ (b ∷ (c ∷ (d ∷ (e ∷ r))))) = let h = length_entries (s + 1) r in omega arith

-- the entry that one chunk of five bytes makes
abbrev pub entry_in : ℕ → List ℕ → Entry
entry_in i c = entry_of i (byte c 0) (byte c 1) (byte c 2) (byte c 3) (byte c 4)

-- the entry at i is that of the chunk at i
pub entry_of_chunk : (k i s : ℕ) (bs : List ℕ) (z : Entry) → k * 5 ≤ length bs → i < k → entry_in (s + i) (get_or (first_chunks 5 k bs) i []) ≡ get_or (entries_from s bs) i z
unfolding entries_from
entry_of_chunk zero i s bs z h l = absurd (omega arith)
entry_of_chunk (suc k) i s [] z h l = absurd (omega arith)
entry_of_chunk (suc k) i s (a ∷ []) z h l = absurd (omega arith)
entry_of_chunk (suc k) i s (a ∷ (b ∷ [])) z h l = absurd (omega arith)
entry_of_chunk (suc k) i s (a ∷ (b ∷ (c ∷ []))) z h l = absurd (omega arith)
entry_of_chunk (suc k) i s (a ∷ (b ∷ (c ∷ (d ∷ [])))) z h l = absurd (omega arith)
entry_of_chunk (suc k) zero s (a ∷ (b ∷ (c ∷ (d ∷ (e ∷ r))))) z h l = ap (λ n. entry_of n a b c d e) (add-zero s)
entry_of_chunk (suc k) (suc i) s (a ∷ (b ∷ (c ∷ (d ∷ (e ∷ r))))) z h l =
    let n : s + suc i ≡ (s + 1) + i = omega arith in
    rw n (entry_of_chunk k i (s + 1) r z (omega arith) (omega arith))

-- the same, of all entries, by the chunk that was looked up
pub entry_found : (bs : List ℕ) (cs : List (List ℕ)) (i : ℕ) (z : Entry) (c : List ℕ) → cs ≡ first_chunks 5 (length bs / 5) bs → length cs ≡ length bs / 5 → i < length cs → c ≡ get_or cs i [] → entry_in i c ≡ get_or (entries bs) i z
entry_found bs cs i z c f n h e =
    let at_i : c ≡ get_or (first_chunks 5 (length bs / 5) bs) i [] = rw f at e in
    rw (← at_i, zero-add i) at (entry_of_chunk (length bs / 5) i 0 bs z (omega arith) (omega arith))

pub entry_past : (i : ℕ) (bs : List ℕ) (z : Entry) → length bs / 5 ≤ i → z ≡ get_or (entries bs) i z
entry_past i bs z h = sym (get_or_past (entries bs) i z (rw (length_entries 0 bs) h))
