-- Two corner rules by which each contour has the same records give the same readings.
use Rattle.std.proofs.Common.{◌≡◌, ℕ, ◌+◌, Bool, ◌||◌, ltb, List, [], ◌∷◌, ◌++◌, map, length, ℤ, refl, ap, ◌∙◌}
use Rattle.std.specs.List.{AllByRecursion}
use Rattle.outline.specs.declared.points.Point.{Point}
use Rattle.outline.specs.Units.{near_limit}
use Rattle.analysis.specs.Outlines.{Contours}
use Rattle.analysis.specs.Records.{analysed}
use Rattle.segments.specs.declared.measures.Dimension.{Dimension}
use Rattle.segments.specs.declared.tables.Segment.{Segment}
use Rattle.segments.specs.Stretches.{segments_of, most_of, shifted}
use Rattle.reading.specs.Drawn.{contour_segments, drawn_segments, crowded}

-- each contour has the same records by F and by G
abbrev pub SameRecords : (ℤ → ℤ → ℤ → ℤ → Bool) → (ℤ → ℤ → ℤ → ℤ → Bool) → ℕ → Contours → Type 0
SameRecords F G units cs = AllByRecursion (λ c. analysed F (near_limit units) 0 c ≡ analysed G (near_limit units) 0 c) cs

-- one contour more, of the same records
segments-more : (dim : Dimension) (units b : ℕ) (rs ss : List Point) (xs ys : List Segment) → rs ≡ ss → xs ≡ ys
    → map (shifted b) (segments_of dim units rs) ++ xs ≡ map (shifted b) (segments_of dim units ss) ++ ys
segments-more dim units b rs ss xs ys p q = cc

crowds_more : (dim : Dimension) (h : ℕ) (rs ss : List Point) (x y : Bool) → rs ≡ ss → x ≡ y
    → (ltb 1001 (h + most_of dim rs) || x) ≡ (ltb 1001 (h + most_of dim ss) || y)
crowds_more dim h rs ss x y p q = cc

module _ (F G : ℤ → ℤ → ℤ → ℤ → Bool) (dim : Dimension) (units : ℕ) where
  pub drawn_segments-same : (b : ℕ) (cs : Contours) → SameRecords F G units cs → drawn_segments F dim units b cs ≡ drawn_segments G dim units b cs
  drawn_segments-same b [] same = refl
  drawn_segments-same b (c ∷ cs) same =
      segments-more dim units b (analysed F (near_limit units) 0 c) (analysed G (near_limit units) 0 c) _ _ same.0 (drawn_segments-same (b + length c) cs same.1)

  pub crowded-same : (h : ℕ) (cs : Contours) → SameRecords F G units cs → crowded F dim units h cs ≡ crowded G dim units h cs
  crowded-same h [] same = refl
  crowded-same h (c ∷ cs) same =
      let held = ap (λ (rs : List Point). h + length (segments_of dim units rs)) same.0 in
      crowds_more dim h (analysed F (near_limit units) 0 c) (analysed G (near_limit units) 0 c) _ _ same.0
      (ap (λ (k : ℕ). crowded F dim units k cs) held ∙ crowded-same (h + length (contour_segments G dim units c)) cs same.1)
