-- A contour's segments among those of an outline are those that it has alone.
use Rattle.std.proofs.Common.{◌≡◌, ℕ, ◌+◌, ◌-◌, Bool, ◌||◌, ltb, List, [], ◌∷◌, ◌++◌, map, length, take, drop, ℤ, sym, refl, ap, ◌∙◌, append_assoc, arith, length-append}
use lib.ListN.{length-map}
use lib.Seq.{take-append_seam, drop-append_seam}
use Rattle.std.specs.List.{AllZip}
use Rattle.outline.specs.declared.contours.Contour.{Contour}
use Rattle.outline.specs.declared.points.DrawnPoint.{DrawnPoint}
use Rattle.outline.specs.declared.points.Point.{Point}
use Rattle.outline.specs.Units.{near_limit}
use Rattle.analysis.specs.Outlines.{Tiles, points_of, cut_out, outline_records}
use Rattle.analysis.specs.Records.{analysed, shifted}
use Rattle.analysis.proofs.Fills.{alone}
use Rattle.analysis.proofs.Tilings.{length-analysed, length-points, tiles_le}
use Rattle.segments.specs.declared.measures.Dimension.{Dimension}
use Rattle.segments.specs.declared.tables.Segment.{Segment}
use Rattle.segments.specs.Laws.{Alike}
use Rattle.segments.specs.Readings.{entries_of, room_of, all_entries, overflows}
use Rattle.segments.specs.Stretches.{segments_of, most_of, shifted as moved_up}
use Rattle.segments.proofs.Alone.{alike_read_same}
use Rattle.reading.specs.Drawn.{contour_segments, drawn_segments, crowded}

-- the middle of a list in three parts
middle : (k f : ℕ) (before here rest : List Point) → k ≡ length here → f ≡ length before → take k (drop f (before ++ (here ++ rest))) ≡ here
middle k f before here rest p q = rw (p, q, drop-append_seam, take-append_seam)

alike_shifted : (b : ℕ) (xs : List Point) → AllZip Alike (map (shifted b) xs) xs
alike_shifted b [] = tt
alike_shifted b (x ∷ xs) = (record { x = refl; y = refl; kind = refl; leaves = refl }, alike_shifted b xs)

appended : {xs ys us vs : List Segment} → xs ≡ us → ys ≡ vs → xs ++ ys ≡ us ++ vs
appended p q = cc

either : {a b x y : Bool} → a ≡ x → b ≡ y → (a || b) ≡ (x || y)
either p q = cc

both-moved : (f b : ℕ) (xs ys : List Segment) → f ≡ b → xs ≡ ys → map (moved_up f) xs ≡ map (moved_up b) ys
both-moved f b xs ys p q = cc

module _ (flat : ℤ → ℤ → ℤ → ℤ → Bool) (dim : Dimension) (units : ℕ) (ps : List DrawnPoint) where
  -- the records of contours from the index b on
  abbrev records : ℕ → List Contour → List Point
  records b cs = outline_records flat (near_limit units) b (cut_out cs ps)

  -- one contour, behind records that end where it begins
  record Here (b : ℕ) (c : Contour) (cs : List Contour) (before : List Point) : Type 0 where
    pub entries : entries_of dim units (before ++ records b (c ∷ cs)) c ≡ map (moved_up b) (contour_segments flat dim units (points_of ps c))
    pub room : room_of dim (before ++ records b (c ∷ cs)) c ≡ most_of dim (analysed flat (near_limit units) 0 (points_of ps c))
    pub next : b + length (points_of ps c) ≡ c.end
    pub rest : before ++ records b (c ∷ cs) ≡ (before ++ analysed flat (near_limit units) b (points_of ps c)) ++ records (b + length (points_of ps c)) cs
    pub long : length (before ++ analysed flat (near_limit units) b (points_of ps c)) ≡ b + length (points_of ps c)

  here : (b : ℕ) (c : Contour) (cs : List Contour) (before : List Point) → Tiles b (length ps) (c ∷ cs) → length before ≡ b → Here b c cs before
  unfolding outline_records entries_of room_of
  here b c cs before t l =
      let within = tiles_le c.end (length ps) cs t.2 in
      let counted = length-points ps c within in
      let own = analysed flat (near_limit units) b (points_of ps c) in
      let counted-own = length-analysed flat (near_limit units) b (points_of ps c) in
      let cut = middle (c.end - c.first) c.first before own (records (b + length (points_of ps c)) cs) (omega (arith, counted, counted-own)) (omega (arith, l, t.0)) in
      let same = alike_read_same dim units (map (shifted b) (analysed flat (near_limit units) 0 (points_of ps c))) (analysed flat (near_limit units) 0 (points_of ps c)) (alike_shifted b _) in
      let moved = alone flat (near_limit units) b (points_of ps c) in
      record {
        entries = both-moved c.first b _ _ t.0 (ap (λ (x : List Point). segments_of dim units x) (cut ∙ moved) ∙ same.0);
        room = ap (λ (x : List Point). most_of dim x) (cut ∙ moved) ∙ same.1;
        next = omega (arith, counted, t.0, t.1);
        rest = sym (append_assoc before own _);
        long = length-append before own ∙ omega (arith, l, counted-own);
      }

  all-alone : (b : ℕ) (cs : List Contour) (before : List Point) → Tiles b (length ps) cs → length before ≡ b
      → all_entries dim units (before ++ records b cs) cs ≡ drawn_segments flat dim units b (cut_out cs ps)
  all-alone b [] before t l = refl
  all-alone b (c ∷ cs) before t l =
      let h = here b c cs before t l in
      let more = all-alone (b + length (points_of ps c)) cs (before ++ analysed flat (near_limit units) b (points_of ps c)) (rw h.next t.2) h.long in
      let rest : all_entries dim units (before ++ records b (c ∷ cs)) cs ≡ drawn_segments flat dim units (b + length (points_of ps c)) (cut_out cs ps) = rw h.rest more in
      appended h.entries rest

  full-alone : (b h : ℕ) (cs : List Contour) (before : List Point) → Tiles b (length ps) cs → length before ≡ b
      → overflows dim units (before ++ records b cs) h cs ≡ crowded flat dim units h (cut_out cs ps)
  full-alone b h [] before t l = refl
  full-alone b h (c ∷ cs) before t l =
      let i = here b c cs before t l in
      let n = ap (λ (x : List Segment). length x) i.entries ∙ length-map (contour_segments flat dim units (points_of ps c)) (moved_up b) in
      let more = full-alone (b + length (points_of ps c)) (h + length (contour_segments flat dim units (points_of ps c))) cs (before ++ analysed flat (near_limit units) b (points_of ps c)) (rw i.next t.2) i.long in
      let rest : overflows dim units (before ++ records b (c ∷ cs)) (h + length (contour_segments flat dim units (points_of ps c))) cs
      ≡ crowded flat dim units (h + length (contour_segments flat dim units (points_of ps c))) (cut_out cs ps) = rw i.rest more in
      either (ap (λ (k : ℕ). ltb 1001 (h + k)) i.room) (ap (λ (k : ℕ). overflows dim units (before ++ records b (c ∷ cs)) (h + k) cs) n ∙ rest)

  -- the whole of an outline, whose records are those of its drawing
  pub entries-alone : (cs : List Contour) (rs : List Point) → Tiles 0 (length ps) cs → rs ≡ records 0 cs
      → all_entries dim units rs cs ≡ drawn_segments flat dim units 0 (cut_out cs ps)
  entries-alone cs rs t e = rw e (all-alone 0 cs [] t refl)

  pub crowds_alone : (cs : List Contour) (rs : List Point) → Tiles 0 (length ps) cs → rs ≡ records 0 cs
      → overflows dim units rs 0 cs ≡ crowded flat dim units 0 (cut_out cs ps)
  crowds_alone cs rs t e = rw e (full-alone 0 0 cs [] t refl)
