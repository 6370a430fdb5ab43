-- History does not matter.
use Rattle.std.proofs.Common.{◌≡◌, ℕ, zero, suc, ◌+◌, ◌≤◌, Bool, true, false, cond, ltb, List, [], ◌∷◌, length, ℤ, Ok, Err, Result, sym, refl, ap, ◌∙◌, subst, arith}
use Rattle.std.specs.List.{AllByRecursion}
use Rattle.std.proofs.ByRecursion.{All-weaker}
use Rattle.outline.specs.Units.{near_limit}
use Rattle.analysis.specs.Areas.{orientation_of, total_area}
use Rattle.analysis.specs.Outlines.{Contours, Small, point_count, outline_records}
use Rattle.analysis.proofs.Meanings.{analysed-same, outline_records-same}
use Rattle.segments.specs.declared.faults.BuildFault.TheVariants.{TooManySegments}
use Rattle.segments.specs.declared.measures.Dimension.{Dimension}
use Rattle.segments.specs.declared.tables.Segment.{Segment}
use Rattle.segments.specs.Readings.{blanks}
use Rattle.drawing.proofs.Held.{Fit, fits, points-held, contours-held}
use Rattle.drawing.proofs.Insides.{decides_all_inside}
use Rattle.reading.specs.declared.faults.ReadFault.{ReadFault}
use Rattle.reading.specs.declared.faults.ReadFault.TheVariants.{TableTooShort, Build}
use Rattle.reading.specs.Drawn.{drawn_segments, crowded}
use Rattle.reading.specs.Readings.{Reads, read_table}
use Rattle.reading.proofs.Meanings.{SameRecords, drawn_segments-same, crowded-same}
use Rattle.sheet.specs.declared.sheets.Sheet.{Sheet}
use Rattle.sheet.specs.Book.{Call, edit, reading, Answer, read, shown, Terms, Agree, reading_of, answer, answers, next, book_after, Redraws, spans}
use Rattle.sheet.specs.Sheets.{contours_of, terms, Analysed, Did, by_edit, by_reading, Run, none, more, Fresh}
use Rattle.sheet.specs.Laws.{Shows, LinksMutual, Shares, Together, History}
use Rattle.sheet.proofs.Redrawn.{redrawn}
use Rattle.sheet.proofs.Spans.{drawing-spans}

-- what a reading shows is what the rules show
by_cases : (short over : Bool) (n : ℕ) (t bs ts : List Segment)
    → shown (cond short (Err TableTooShort) (cond over (Err (Build TooManySegments)) (Ok n))) (cond short t (cond over bs ts))
    ≡ cond short (read (Err TableTooShort) []) (cond over (read (Err (Build TooManySegments)) bs) (read (Ok n) ts))
by_cases true over n t bs ts = refl
by_cases false true n t bs ts = refl
by_cases false false n t bs ts = refl

pub reading-shown : (w : Terms) (cs : Contours) (dim : Dimension) (t t' : List Segment) (r : Result ℕ ReadFault)
    → Reads w.flat w.units w.width dim cs t r t' → shown r t' ≡ reading_of w cs dim (length t)
reading-shown w cs dim t t' r d =
    rw (d.answers, d.leaves)
    (by_cases (ltb (length t) 1001) (crowded w.flat dim w.units 0 cs) (length (drawn_segments w.flat dim w.units 0 cs)) t (blanks (length t))
    (read_table w.flat w.units w.width dim cs (length t)))

-- Rules of one meaning, over contours that a sheet can hold
module _ (v w : Terms) (a : Agree v w) (cs : Contours) (small : AllByRecursion (AllByRecursion Small) cs) where
  same : (units : ℕ) → SameRecords v.flat w.flat units cs
  same units = All-weaker (AllByRecursion Small) _ (λ c h. analysed-same v.flat w.flat a.meaning (near_limit units) 0 c h) cs small

  pub records_agree : outline_records v.flat (near_limit v.units) 0 cs ≡ outline_records w.flat (near_limit w.units) 0 cs
  records_agree = rw a.units (outline_records-same v.flat w.flat a.meaning (near_limit w.units) 0 cs small)

  pub readings_agree : (dim : Dimension) (size : ℕ) → reading_of v cs dim size ≡ reading_of w cs dim size
  readings_agree dim size =
      rw (a.units, a.width, crowded-same v.flat w.flat dim w.units 0 cs (same w.units), drawn_segments-same v.flat w.flat dim w.units 0 cs (same w.units))

  pub answers_agree : (q : Call) → answer v cs q ≡ answer w cs q
  answers_agree (edit e) = refl
  answers_agree (reading dim size) = readings_agree dim size

cons_same : {X : Type 0} {x y : X} {xs ys : List X} → x ≡ y → xs ≡ ys → x ∷ xs ≡ y ∷ ys
cons_same p q = cc

pub sheet_small : {R : Type 0} (s : Sheet R) → AllByRecursion (AllByRecursion Small) (contours_of s)
sheet_small s = All-weaker Fit (AllByRecursion Small) (λ c h. (decides_all_inside c).0 h.inside) (contours_of s) (fits s.drawing)

-- Runs of one sheet
module _ {R : Type 0} (flat : R → ℤ → ℤ → ℤ → ℤ → Bool) where
  -- from s to t by the calls qs: the answers are the book's, t holds the book's contours, and is as it should be
  pub record Follows (s : Sheet R) (qs : List Call) (as' : List Answer) (t : Sheet R) : Type 0 where
    pub answered : as' ≡ answers (terms flat s) (contours_of s) qs
    pub draws : contours_of t ≡ book_after (contours_of s) qs
    pub keeps : terms flat t ≡ terms flat s
    pub analysed : Analysed flat t

  edited-terms : (s t : Sheet R) → t.settings ≡ s.settings → t.rule ≡ s.rule → terms flat t ≡ terms flat s
  edited-terms s t p q = rw (p, q)

  did : {s t : Sheet R} {q : Call} {a : Answer} → Did flat s q a t → Analysed flat s → Follows s (q ∷ []) (a ∷ []) t
  did (by_edit {s} {t} e) h = record { answered = rw e.answers; draws = e.draws; keeps = edited-terms s t e.settings e.rule; analysed = e.analyses h }
  did (by_reading {s} {dim} {r} t t' d) h =
      record { answered = rw (reading-shown (terms flat s) (contours_of s) dim t t' r (d.reads h)); draws = refl; keeps = refl; analysed = h }

  head_of : {x y : Answer} {xs ys : List Answer} → x ∷ xs ≡ y ∷ ys → x ≡ y
  head_of e = cc

  pub follows : {s t : Sheet R} {qs : List Call} {as' : List Answer} → Run flat s qs as' t → Analysed flat s → Follows s qs as' t
  follows none h = record { answered = refl; draws = refl; keeps = refl; analysed = h }
  follows (more {s} {t} {u} {q} {a} {qs} {as'} d r) h =
      let one = did d h in
      let rest = follows r one.analysed in
      let drawn : contours_of t ≡ next (contours_of s) q = one.draws in
      record {
        answered = cons_same (head_of one.answered) (rest.answered ∙ (ap (λ (w : Terms). answers w (contours_of t) qs) one.keeps ∙ ap (λ (b : Contours). answers (terms flat s) b qs) drawn));
        draws = rest.draws ∙ ap (λ (b : Contours). book_after b qs) drawn;
        keeps = rest.keeps ∙ one.keeps;
        analysed = rest.analysed;
      }

  -- what the book answers by other terms that agree
  pub other_terms : {s t : Sheet R} {qs : List Call} {as' : List Answer} (w : Terms) → Run flat s qs as' t → Analysed flat s → Agree (terms flat s) w
      → answers (terms flat s) (contours_of s) qs ≡ answers w (contours_of s) qs
  other_terms w none h agree = refl
  other_terms w (more {s} {t} {u} {q} {a} {qs} {as'} d r) h agree =
      let one = did d h in
      let drawn : contours_of t ≡ next (contours_of s) q = one.draws in
      let on = other_terms w r one.analysed (subst (λ (v : Terms). Agree v w) (sym one.keeps) agree) in
      let on' : answers (terms flat s) (next (contours_of s) q) qs ≡ answers w (next (contours_of s) q) qs = rw (← drawn, ← one.keeps) on in
      cons_same (answers_agree (terms flat s) w agree (contours_of s) (sheet_small s) q) on'

  -- a sheet that is as it should be shows what the rules give its contours
  pub shows : (s : Sheet R) (cs : Contours) → Analysed flat s → contours_of s ≡ cs → Shows flat s cs
  shows s cs h e = record {
    contours = e;
    places = drawing-spans s.drawing ∙ ap (spans 0) e;
    points = h ∙ ap (outline_records (flat s.rule) (near_limit s.settings.units) 0) e;
    orientation = λ o w. w ∙ ap (λ (b : Contours). orientation_of (total_area b)) e;
    readings = λ dim t t' r d. reading-shown (terms flat s) (contours_of s) dim t t' r (d.reads h) ∙ ap (λ (b : Contours). reading_of (terms flat s) b dim (length t)) e;
  }

  pub links_mutual : (s : Sheet R) → Fresh flat s → LinksMutual flat s
  links_mutual s fresh qs as' worked run dim t t' n d =
      let w = follows run fresh.analysed in
      let drawn : contours_of worked ≡ book_after [] qs = w.draws ∙ ap (λ (b : Contours). book_after b qs) fresh.empty in
      let u : worked.settings.units ≡ s.settings.units = ap (λ (v : Terms). v.units) w.keeps in
      let v : worked.settings.width ≡ s.settings.width = ap (λ (v : Terms). v.width) w.keeps in
      rw (← drawn, ← u, ← v) d.stems

-- Runs of two sheets
module _ {R Q : Type 0} (flat : R → ℤ → ℤ → ℤ → ℤ → Bool) (flat' : Q → ℤ → ℤ → ℤ → ℤ → Bool) where
  -- both hold the contours cs, are as they should be, and go by terms that agree
  record Twins (cs : Contours) (s : Sheet R) (t : Sheet Q) : Type 0 where
    first : contours_of s ≡ cs
    second : contours_of t ≡ cs
    first-analysed : Analysed flat s
    second_analysed : Analysed flat' t
    agree : Agree (terms flat s) (terms flat' t)

  shares : (cs : Contours) (s : Sheet R) (t : Sheet Q) → Twins cs s t → Shares flat flat' s t
  shares cs s t w =
      let a = shows flat s cs w.first-analysed w.first in
      let b = shows flat' t cs w.second_analysed w.second in
      let small : AllByRecursion (AllByRecursion Small) cs = subst (λ (x : Contours). AllByRecursion (AllByRecursion Small) x) w.first (sheet_small s) in
      record {
        places = a.places ∙ sym b.places;
        points = a.points ∙ (records_agree (terms flat s) (terms flat' t) w.agree cs small ∙ sym b.points);
        orientation = λ o o' p q. a.orientation o p ∙ sym (b.orientation o' q);
        readings = λ dim x x' y y' r q l p d.
            a.readings dim x x' r p
            ∙ (readings_agree (terms flat s) (terms flat' t) w.agree cs small dim (length x)
            ∙ (ap (reading_of (terms flat' t) cs dim) l ∙ sym (b.readings dim y y' q d)));
      }

  agree_still : (v v' w w' : Terms) → v' ≡ v → w' ≡ w → Agree v w → Agree v' w'
  agree_still v v' w w' p q a = rw (p, q) a

  together : (n : ℕ) (cs : Contours) (s : Sheet R) (t : Sheet Q) → Twins cs s t → Together flat flat' n cs s t
  together zero cs s t w = shares cs s t w
  together (suc n) cs s t w = (
    shares cs s t w,
    λ qs as' bs s' t' p q.
        let a = follows flat p w.first-analysed in
        let b = follows flat' q w.second_analysed in
        let by-book : as' ≡ answers (terms flat s) cs qs = a.answered ∙ ap (λ (x : Contours). answers (terms flat s) x qs) w.first in
        let other : answers (terms flat s) cs qs ≡ answers (terms flat' t) cs qs = rw (← w.first) (other_terms flat (terms flat' t) p w.first-analysed w.agree) in
        let by-book' : bs ≡ answers (terms flat' t) cs qs = b.answered ∙ ap (λ (x : Contours). answers (terms flat' t) x qs) w.second in
        let drawn : contours_of s' ≡ book_after cs qs = a.draws ∙ ap (λ (x : Contours). book_after x qs) w.first in
        let drawn' : contours_of t' ≡ book_after cs qs = b.draws ∙ ap (λ (x : Contours). book_after x qs) w.second in (
          by-book,
          by-book ∙ (other ∙ sym by-book'),
          shows flat s' (book_after cs qs) a.analysed drawn,
          shows flat' t' (book_after cs qs) b.analysed drawn',
          together n (book_after cs qs) s' t' (record {
            first = drawn;
            second = drawn';
            first-analysed = a.analysed;
            second_analysed = b.analysed;
            agree = agree_still (terms flat s) (terms flat s') (terms flat' t) (terms flat' t') a.keeps b.keeps w.agree;
          }),
        ),
  )

  -- a sheet's contours drawn anew are its contours
  redrawn_sheet : (s : Sheet R) (cs : Contours) (ds : List Call) → contours_of s ≡ cs → Redraws ds cs → book_after [] ds ≡ cs
  redrawn_sheet s cs ds e d =
      redrawn [] cs ds d (rw e at (fits s.drawing))
      (rw e at (few-points s)) (rw e at (few-contours s))
    where
      few-points : (s : Sheet R) → 0 + point_count (contours_of s) ≤ 2048
      few-points s = omega (arith, points-held s.drawing, s.drawing.few_points)

      few-contours : (s : Sheet R) → 0 + length (contours_of s) ≤ 128
      few-contours s = omega (arith, contours-held s.drawing, s.drawing.few_contours)

  pub history : (s : Sheet R) → Fresh flat s → History flat flat' s
  history s fresh qs as' worked run =
      let w = follows flat run fresh.analysed in
      let drawn : contours_of worked ≡ book_after [] qs = w.draws ∙ ap (λ (b : Contours). book_after b qs) fresh.empty in
      record {
        answered = w.answered ∙ ap (λ (b : Contours). answers (terms flat s) b qs) fresh.empty;
        shows = shows flat worked (book_after [] qs) w.analysed drawn;
        clean = λ n fresh' clean ds bs new agree d redo.
            let k = follows flat' redo new.analysed in
            let again : contours_of clean ≡ book_after [] qs = k.draws ∙ (ap (λ (b : Contours). book_after b ds) new.empty ∙ redrawn_sheet worked (book_after [] qs) ds drawn d) in
            together n (book_after [] qs) worked clean (record {
              first = drawn;
              second = again;
              first-analysed = w.analysed;
              second_analysed = k.analysed;
              agree = agree_still (terms flat s) (terms flat worked) (terms flat' fresh') (terms flat' clean) w.keeps k.keeps agree;
            });
      }
