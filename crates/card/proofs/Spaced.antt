-- Lines whose words are added one after another.
use Rattle.std.proofs.Common.{◌≡◌, refl, ℕ, ◌+◌, ◌<◌, ◌≤◌, List, [], ◌∷◌, ◌++◌, length, map, get_or, take, sym, ap, ◌∙◌, arith}
use Rattle.std.proofs.lemmas.List.{append_assoc, flat_map_more, length-append, take_all, take_more}
use Rattle.std.proofs.lemmas.List.Folds.{flat_map-map, length-flat_map-take}
use Rattle.std.specs.List.{flat_map}
use Rattle.card.specs.Lines.{line_of, spaced}

-- the first word, and the others after a space each
abbrev pub words_after : {X : Type 0} → (X → List ℕ) → List ℕ → List X → List ℕ
words_after f w xs = w ++ flat_map (λ x. 32 ∷ f x) xs

-- each word takes its length, and one for the space or the newline after it
abbrev pub size : List (List ℕ) → ℕ
size [] = 0
size (w ∷ ws) = length w + 1 + size ws

spaced_size : (ws : List (List ℕ)) → length (spaced ws) ≡ size ws
spaced_size [] = refl
spaced_size (w ∷ ws) = omega (arith, length-append (32 ∷ w) (spaced ws), spaced_size ws)

pub line_size : (w : List ℕ) (ws : List (List ℕ)) → length (line_of (w ∷ ws)) ≡ size (w ∷ ws)
unfolding line_of
line_size w ws = omega (arith, length-append (w ++ spaced ws) (10 ∷ []), length-append w (spaced ws), spaced_size ws)

module _ {X : Type 0} (f : X → List ℕ) (w : List ℕ) (xs : List X) where
  line_ends : words_after f w xs ++ 10 ∷ [] ≡ line_of (w ∷ map f xs)
  unfolding line_of
  line_ends = ap (λ (t : List ℕ). w ++ t ++ 10 ∷ []) (sym (flat_map-map (λ v. 32 ∷ v) f xs))

  pub line_length : length (line_of (w ∷ map f xs)) ≡ length w + length (flat_map (λ x. 32 ∷ f x) xs) + 1
  line_length =
      let a = ap length line_ends in
      let b = length-append (words_after f w xs) (10 ∷ []) in
      let c = length-append w (flat_map (λ x. 32 ∷ f x) xs) in
      omega arith

  -- one word more
  pub word_more : (i : ℕ) (x : X) (t t₁ v t₂ : List ℕ) → i < length xs → x ≡ get_or xs i x → t ≡ words_after f w (take i xs)
      → t₁ ≡ t ++ 32 ∷ [] → v ≡ f x → t₂ ≡ t₁ ++ v → t₂ ≡ words_after f w (take (i + 1) xs)
  word_more i x t t₁ v t₂ l is e e₁ e₂ e₃ =
      let a = append_assoc t (32 ∷ []) (f x) in
      let b = append_assoc w (flat_map (λ x. 32 ∷ f x) (take i xs)) (32 ∷ f x) in
      let m = flat_map_more (λ x. 32 ∷ f x) w (take i xs) (get_or xs i x) in
      let n = ap (words_after f w) (take_more xs i x l) in
      let k = ap f is in
      cc

  -- the next word has room where the line has
  pub word_room : (i : ℕ) (d : X) → i < length xs → length (words_after f w (take i xs)) + length (f (get_or xs i d)) + 1 < length (line_of (w ∷ map f xs))
  word_room i d l =
      omega (arith, line_length, length-append w (flat_map (λ x. 32 ∷ f x) (take i xs)), length-flat_map-take (λ x. 32 ∷ f x) xs i d l)

  -- no word is left
  pub words_all : (i : ℕ) (t : List ℕ) → length xs ≤ i → t ≡ words_after f w (take i xs) → t ++ 10 ∷ [] ≡ line_of (w ∷ map f xs)
  words_all i t g e = ap (λ (u : List ℕ). u ++ 10 ∷ []) (e ∙ ap (words_after f w) (take_all i xs g)) ∙ line_ends

  pub words_length : (i : ℕ) (t : List ℕ) → length xs ≤ i → t ≡ words_after f w (take i xs) → length t + 1 ≡ length (line_of (w ∷ map f xs))
  words_length i t g e = sym (length-append t (10 ∷ [])) ∙ ap length (words_all i t g e)
