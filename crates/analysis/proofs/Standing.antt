-- One contour's records among those of the contours before and after it.
use Rattle.std.proofs.Common.{◌≡◌, ℕ, ◌+◌, ◌<◌, ◌≤◌, Bool, List, [], ◌∷◌, ◌++◌, map, length, get_or, take, drop, ℤ, refl, ◌∙◌, subst, append_assoc, add-zero, zero-add, arith}
use Rattle.std.proofs.lemmas.List.{length-append, map-append, take-append-drop, drop_more, take_at, drop_at}
use Rattle.outline.specs.declared.contours.Contour.{Contour}
use Rattle.outline.specs.declared.points.DrawnPoint.{DrawnPoint}
use Rattle.outline.specs.declared.points.Point.{Point}
use Rattle.analysis.specs.Records.{analysed, shifted}
use Rattle.analysis.specs.Outlines.{Contours, point_count, first_of, Tiles, points_of, cut_out, outline_records, StandAlone}
use Rattle.analysis.proofs.Fills.{alone}
use Rattle.analysis.proofs.Tilings.{tiles_le, length-analysed, length-points, records-first}

pub point_count-append : (cs ds : Contours) → point_count (cs ++ ds) ≡ point_count cs + point_count ds
point_count-append [] ds = omega arith
point_count-append (c ∷ cs) ds = omega (arith, point_count-append cs ds)

-- the contours before one of a row from b on reach up to its first point, and it ends in the row
tiles-count : (b : ℕ) (ps : List DrawnPoint) (before after : List Contour) (c : Contour) → Tiles b (length ps) (before ++ (c ∷ after))
    → (b + point_count (cut_out before ps) ≡ c.first) × (c.end ≤ length ps)
tiles-count b ps [] after c t = (omega arith, tiles_le c.end (length ps) after t.2)
tiles-count b ps (d ∷ before) after c t =
    let end = tiles_le d.end (length ps) (before ++ (c ∷ after)) t.2 in
    let long = length-points ps d end in
    let more = tiles-count d.end ps before after c t.2 in
    (omega arith, more.1)

module _ (F : ℤ → ℤ → ℤ → ℤ → Bool) (N : ℕ) where
  pub length-outline_records : (b : ℕ) (cs : Contours) → length (outline_records F N b cs) ≡ point_count cs
  unfolding outline_records
  length-outline_records b [] = refl
  length-outline_records b (c ∷ cs) =
      let first = length-analysed F N b c in
      let rest = length-outline_records (b + length c) cs in
      simp length-append (omega arith)

  -- contours after others have the records that they have from the others' end on
  pub records-append : (b : ℕ) (cs ds : Contours)
      → outline_records F N b (cs ++ ds) ≡ outline_records F N b cs ++ outline_records F N (b + point_count cs) ds
  unfolding outline_records
  records-append b [] ds = rw add-zero
  records-append b (c ∷ cs) ds =
      let rest = records-append (b + length c) cs ds in
      let end : (b + length c) + point_count cs ≡ b + (length c + point_count cs) = omega arith in
      let g = append_assoc (analysed F N b c) (outline_records F N (b + length c) cs) (outline_records F N (b + (length c + point_count cs)) ds) in
      cc

  -- a contour between others has the records that it has alone, with their neighbours moved up to its place
  pub records_between : (before after : Contours) (ps : List DrawnPoint)
      → take (length ps) (drop (point_count before) (outline_records F N 0 (before ++ (ps ∷ after))))
      ≡ map (shifted (point_count before)) (analysed F N 0 ps)
  records_between before after ps =
      let b = point_count before in
      let A = analysed F N b ps in
      let R = outline_records F N (b + length ps) after in
      let from : 0 + b ≡ b = omega arith in
      let split = records-append 0 before (ps ∷ after) in
      let first = records-first F N b ps after in
      let skip = drop_at (outline_records F N 0 before) (A ++ R) b (length-outline_records 0 before) in
      let part = take_at A R (length ps) (length-analysed F N b ps) in
      let shift = alone F N b ps in
      cc

  pub records_of-contour : (cs : Contours) (k : ℕ) → k < length cs
      → take (length (get_or cs k [])) (drop (first_of cs k) (outline_records F N 0 cs)) ≡ map (shifted (first_of cs k)) (analysed F N 0 (get_or cs k []))
  records_of-contour cs k in' =
      let whole = take-append-drop k cs in
      let left = drop_more cs k [] in' in
      let found = records_between (take k cs) (drop (k + 1) cs) (get_or cs k []) in
      cc

  pub stand_alone : (cs : List Contour) (ps : List DrawnPoint) (out : List Point)
      → Tiles 0 (length ps) cs → out ≡ outline_records F N 0 (cut_out cs ps) → StandAlone F N cs ps out
  stand_alone cs ps out tiles is before after c e =
      let t : Tiles 0 (length ps) (before ++ (c ∷ after)) = subst (λ (xs : List Contour). Tiles 0 (length ps) xs) e tiles in
      let count = tiles-count 0 ps before after c t in
      let at : point_count (cut_out before ps) ≡ c.first = omega arith in
      let long = length-points ps c count.1 in
      let split = map-append (points_of ps) before (c ∷ after) in
      let found = records_between (cut_out before ps) (cut_out after ps) (points_of ps c) in
      cc

-- other points of as many in one contour: its records at its place, the others as they were
module _ (F : ℤ → ℤ → ℤ → ℤ → Bool) (N : ℕ) (before after : Contours) (old new : List DrawnPoint) (same : length new ≡ length old) where
  apart : (ps : List DrawnPoint) → outline_records F N 0 (before ++ (ps ∷ after))
      ≡ outline_records F N 0 before ++ (analysed F N (point_count before) ps ++ outline_records F N (point_count before + length ps) after)
  apart ps = records-append F N 0 before (ps ∷ after) ∙ rw (zero-add, records-first) refl

  pub records_changed : (out : List Point) → out ≡ outline_records F N 0 (before ++ (old ∷ after))
      → take (point_count before) out ++ (analysed F N (point_count before) new ++ drop (point_count before + length new) out)
      ≡ outline_records F N 0 (before ++ (new ∷ after))
  records_changed out e =
      let front = outline_records F N 0 before in
      let mid = analysed F N (point_count before) old in
      let back = outline_records F N (point_count before + length old) after in
      let l₁ = length-outline_records F N 0 before in
      let l₂ = length-analysed F N (point_count before) old in
      let l₃ : length (front ++ mid) ≡ point_count before + length new = simp length-append (omega arith) in
      let whole = e ∙ apart old in
      let t = take_at front (mid ++ back) (point_count before) l₁ in
      let d = drop_at (front ++ mid) back (point_count before + length new) l₃ in
      let g = append_assoc front mid back in
      let now' = apart new in
      cc
