-- Where the walk round a contour begins.
use Rattle.std.proofs.Common.{◌≡◌, ℕ, zero, suc, ◌+◌, ◌-◌, ◌<◌, Bool, true, false, cond, ◌&&◌, List, [], ◌∷◌, map, length, get_or, Option, Some, None, MatchOption, sym, refl, ap, ◌∙◌, arith}
use Rattle.std.proofs.lemmas.List.{get_or-map, length-map}
use Rattle.std.proofs.lemmas.Bool.{cond-true, cond-false, and_left, and_right, and_from, and_parts, both_ways}
use Rattle.outline.specs.declared.points.Point.{Point}
use Rattle.segments.specs.declared.measures.AxisPoint.{AxisPoint}
use Rattle.segments.specs.declared.measures.Dimension.{Dimension}
use Rattle.segments.specs.Measures.{seen, on_line}
use Rattle.segments.specs.Starts.{on, IsLastOff, all_on, head_on, last_on, run_of, start_of}

module _ (dim : Dimension) where
  run_zero : (ps : List AxisPoint) → all_on dim ps ≡ true → run_of dim ps ≡ 0
  run_zero [] h = refl
  run_zero (p ∷ ps) h = cond-true _ 0 (run_of dim ps + 1) h

  head_is : (ps : List AxisPoint) (d : AxisPoint) → 0 < length ps → head_on dim ps ≡ on dim (get_or ps 0 d)
  head_is [] d lt = absurd (omega arith)
  head_is (p ∷ ps) d lt = refl

  last_is : (ps : List AxisPoint) (k : ℕ) (d : AxisPoint) → k + 1 ≡ length ps → last_on dim ps ≡ on dim (get_or ps k d)
  last_is [] k d n = absurd (omega arith)
  last_is (p ∷ []) zero d n = refl
  last_is (p ∷ []) (suc k) d n = absurd (omega arith)
  last_is (p ∷ q ∷ ps) zero d n = absurd (omega arith)
  last_is (p ∷ q ∷ ps) (suc k) d n = last_is (q ∷ ps) k d (omega arith)

  -- the run is not empty where the last point is on the line
  run_in : (ps : List AxisPoint) → last_on dim ps ≡ true → run_of dim ps < length ps
  run_in [] h = absurd (both_ways false refl h)
  run_in (p ∷ []) h = omega (arith, run_zero (p ∷ []) (and_from (on dim p) true h refl))
  run_in (p ∷ q ∷ ps) h = go (all_on dim (p ∷ q ∷ ps)) (run_in (q ∷ ps) h)
    where
      go : (b : Bool) → run_of dim (q ∷ ps) < length (q ∷ ps) → cond b 0 (run_of dim (q ∷ ps) + 1) < length (p ∷ q ∷ ps)
      go true lt = omega arith
      go false lt = omega arith

  -- the walk begins at one of the points
  pub starts_in : (ps : List AxisPoint) → 0 < length ps → start_of dim ps < length ps
  starts_in ps lt = go (head_on dim ps && last_on dim ps) (λ e. run_in ps (and_parts (head_on dim ps) (last_on dim ps) e).1)
    where
      go : (b : Bool) → (b ≡ true → run_of dim ps < length ps) → cond b (run_of dim ps) 0 < length ps
      go true h = h refl
      go false h = lt

  all_off : (ps : List Point) (i : ℕ) → i < length ps → ((d : Point) → on_line dim (get_or ps i d).out_dir ≡ false) → all_on dim (map (seen dim) ps) ≡ false
  all_off [] i lt off = absurd (omega arith)
  all_off (p ∷ ps) zero lt off = and_left (on_line dim p.out_dir) (all_on dim (map (seen dim) ps)) (off p)
  all_off (p ∷ ps) (suc i) lt off = and_right (on_line dim p.out_dir) (all_on dim (map (seen dim) ps)) (all_off ps i (omega arith) off)

  all_at : (ps : List Point) → ((k : ℕ) (d : Point) → k < length ps → on_line dim (get_or ps k d).out_dir ≡ true) → all_on dim (map (seen dim) ps) ≡ true
  all_at [] on = refl
  all_at (p ∷ ps) on =
      and_from (on_line dim p.out_dir) (all_on dim (map (seen dim) ps)) (on 0 p (omega arith)) (all_at ps (λ k d lt. on (suc k) d (omega arith)))

  run-after : (ps : List Point) (i : ℕ) → i < length ps → ((d : Point) → on_line dim (get_or ps i d).out_dir ≡ false) →
      ((k : ℕ) (d : Point) → i < k → k < length ps → on_line dim (get_or ps k d).out_dir ≡ true) → run_of dim (map (seen dim) ps) ≡ i + 1
  run-after [] i lt off on = absurd (omega arith)
  run-after (p ∷ ps) zero lt off on =
      omega (
        arith,
        cond-false _ 0 (run_of dim (map (seen dim) ps) + 1) (all_off (p ∷ ps) 0 lt off),
        run_zero (map (seen dim) ps) (all_at ps (λ k d b. on (suc k) d (omega arith) (omega arith))),
      )
  run-after (p ∷ ps) (suc i) lt off on =
      omega (
        arith,
        cond-false _ 0 (run_of dim (map (seen dim) ps) + 1) (all_off (p ∷ ps) (suc i) lt off),
        run-after ps i (omega arith) off (λ k d a b. on (suc k) d (omega arith) (omega arith)),
      )

  -- the run begins after the last point that is off the line
  pub run-found : (ps : List Point) (at : Option ℕ) (n : ℕ) → IsLastOff dim ps at → MatchOption at (n ≡ 0) (λ i. n ≡ i + 1) → n ≡ run_of dim (map (seen dim) ps)
  run-found ps None n off n-is = omega (arith, run_zero (map (seen dim) ps) (all_at ps off))
  run-found ps (Some i) n off n-is = omega (arith, run-after ps i off.0 off.1 off.2)

  module _ (ps : List Point) where
    at : (k : ℕ) (d : Point) → k < length ps → on dim (get_or (map (seen dim) ps) k (seen dim d)) ≡ on_line dim (get_or ps k d).out_dir
    at k d lt = ap (on dim) (get_or-map (seen dim) ps k d (seen dim d) lt)

    -- the tests of the two ends
    ends_are : (d e : Point) → 0 < length ps →
        (head_on dim (map (seen dim) ps) && last_on dim (map (seen dim) ps)) ≡ (on_line dim (get_or ps 0 d).out_dir && on_line dim (get_or ps (length ps - 1) e).out_dir)
    ends_are d e lt =
        let n : length (map (seen dim) ps) ≡ length ps = length-map ps (seen dim) in
        ap (λ (b : Bool). b && last_on dim (map (seen dim) ps)) (head_is (map (seen dim) ps) (seen dim d) (omega arith) ∙ at 0 d lt)
        ∙ ap (λ (b : Bool). on_line dim (get_or ps 0 d).out_dir && b)
        (last_is (map (seen dim) ps) (length ps - 1) (seen dim e) (omega arith) ∙ at (length ps - 1) e (omega arith))

    module _ (d e : Point) (b : Bool) (lt : 0 < length ps)
        (b-is : b ≡ (on_line dim (get_or ps 0 d).out_dir && on_line dim (get_or ps (length ps - 1) e).out_dir)) where
      tested : (head_on dim (map (seen dim) ps) && last_on dim (map (seen dim) ps)) ≡ b
      tested = ends_are d e lt ∙ sym b-is

      pub starts-back : (r : ℕ) → b ≡ true → r ≡ run_of dim (map (seen dim) ps) → (r ≡ start_of dim (map (seen dim) ps)) × (r < length ps)
      starts-back r h r-is = (
        r-is ∙ sym (cond-true _ (run_of dim (map (seen dim) ps)) 0 (tested ∙ h)),
        omega (arith, run_in (map (seen dim) ps) (and_parts (head_on dim (map (seen dim) ps)) (last_on dim (map (seen dim) ps)) (tested ∙ h)).1, length-map ps (seen dim)),
      )

      pub starts_first : b ≡ false → 0 ≡ start_of dim (map (seen dim) ps)
      starts_first h = sym (cond-false _ (run_of dim (map (seen dim) ps)) 0 (tested ∙ h))
