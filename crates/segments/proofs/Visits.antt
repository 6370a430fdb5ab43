-- The parts of the walk round a contour: from its beginning to the last point, from the first point on, and the beginning once more.
use Rattle.std.proofs.Common.{◌≡◌, ℕ, zero, suc, ◌+◌, ◌<◌, true, false, List, [], ◌∷◌, ◌++◌, map, length, get_or, take, drop, refl, ap, ◌∙◌, arith}
use Rattle.std.proofs.lemmas.List.{drop_more, drop-map, take-map}
use Rattle.outline.specs.declared.points.Point.{Point}
use Rattle.segments.specs.declared.measures.AxisPoint.{AxisPoint}
use Rattle.segments.specs.declared.measures.Dimension.{Dimension}
use Rattle.segments.specs.Building.{Visit, numbered, ending, once_round}
use Rattle.segments.specs.Measures.{seen}

pub length-numbered : (i : ℕ) (ps : List AxisPoint) → length (numbered i ps) ≡ length ps
length-numbered i [] = refl
length-numbered i (p ∷ ps) = ap suc (length-numbered (i + 1) ps)

pub get_or-numbered : (i : ℕ) (ps : List AxisPoint) (k : ℕ) (d : Visit) (x : AxisPoint) → k < length ps →
    get_or (numbered i ps) k d ≡ record { at = i + k; point = get_or ps k x; ends = false }
get_or-numbered i [] k d x lt = absurd (omega arith)
get_or-numbered i (p ∷ ps) zero d x lt = let e : i ≡ i + 0 = omega arith in ap (λ (n : ℕ). record { at = n; point = p; ends = false }) e
get_or-numbered i (p ∷ ps) (suc k) d x lt =
    let e : i + 1 + k ≡ i + suc k = omega arith in
    get_or-numbered (i + 1) ps k d x (omega arith) ∙ ap (λ (n : ℕ). record { at = n; point = get_or ps k x; ends = false }) e

drop-numbered : (i s : ℕ) (ps : List AxisPoint) → drop s (numbered i ps) ≡ numbered (i + s) (drop s ps)
drop-numbered i zero ps = let e : i ≡ i + 0 = omega arith in ap (λ (n : ℕ). numbered n ps) e
drop-numbered i (suc s) [] = refl
drop-numbered i (suc s) (p ∷ ps) =
    let e : i + 1 + s ≡ i + suc s = omega arith in drop-numbered (i + 1) s ps ∙ ap (λ (n : ℕ). numbered n (drop s ps)) e

take-numbered : (i s : ℕ) (ps : List AxisPoint) → take s (numbered i ps) ≡ numbered i (take s ps)
take-numbered i zero ps = refl
take-numbered i (suc s) [] = refl
take-numbered i (suc s) (p ∷ ps) = ap (λ (vs : List Visit). record { at = i; point = p; ends = false } ∷ vs) (take-numbered (i + 1) s ps)

module _ (dim : Dimension) (ps : List Point) (s : ℕ) (d : Point) (lt : s < length ps) where
  -- the walk ends where it began
  abbrev pub back : Visit
  back = record { at = s; point = seen dim (get_or ps s d); ends = true }

  later : drop s (numbered 0 (map (seen dim) ps)) ≡ numbered s (map (seen dim) (drop s ps))
  later =
      let e : 0 + s ≡ s = omega arith in
      drop-numbered 0 s (map (seen dim) ps) ∙ ap (λ (n : ℕ). numbered n (drop s (map (seen dim) ps))) e
      ∙ ap (numbered s) (drop-map (seen dim) s ps)

  earlier : take s (numbered 0 (map (seen dim) ps)) ≡ numbered 0 (map (seen dim) (take s ps))
  earlier = take-numbered 0 s (map (seen dim) ps) ∙ ap (numbered 0) (take-map (seen dim) s ps)

  returns : map ending (take 1 (drop s (numbered 0 (map (seen dim) ps)))) ≡ back ∷ []
  returns =
      ap (λ (vs : List Visit). map ending (take 1 vs)) later
      ∙ ap (λ (qs : List Point). map ending (take 1 (numbered s (map (seen dim) qs)))) (drop_more ps s d lt)

  pub round_parts : once_round s (numbered 0 (map (seen dim) ps))
      ≡ numbered s (map (seen dim) (drop s ps)) ++ (numbered 0 (map (seen dim) (take s ps)) ++ back ∷ [])
  round_parts =
      ap (λ (vs : List Visit). vs ++ (take s (numbered 0 (map (seen dim) ps)) ++ map ending (take 1 (drop s (numbered 0 (map (seen dim) ps)))))) later
      ∙ ap (λ (vs : List Visit). numbered s (map (seen dim) (drop s ps)) ++ (vs ++ map ending (take 1 (drop s (numbered 0 (map (seen dim) ps)))))) earlier
      ∙ ap (λ (vs : List Visit). numbered s (map (seen dim) (drop s ps)) ++ (numbered 0 (map (seen dim) (take s ps)) ++ vs)) returns
