-- What the book makes of an edit, and what a call then ensures.
use Rattle.std.proofs.Common.{◌≡◌, ℕ, ◌+◌, ◌-◌, ◌<◌, Bool, true, ltb, List, [], ◌++◌, length, get_or, take, drop, ℤ, Ok, Err, sym, ◌∙◌, arith, lt-ltb}
use Rattle.unscaled.specs.Entries.{Entry}
use Rattle.analysis.specs.Outlines.{Contours, point_count}
use Rattle.analysis.proofs.Standing.{point_count-append}
use Rattle.drawing.specs.declared.faults.EditFault.{EditFault}
use Rattle.drawing.specs.declared.faults.EditFault.TheVariants.{SecondContour}
use Rattle.drawing.specs.Placing.{placed}
use Rattle.drawing.proofs.Joined.{parts-count}
use Rattle.sheet.specs.declared.sheets.Sheet.{Sheet}
use Rattle.sheet.specs.Book.{Edit, replacing, others, outcome}
use Rattle.sheet.specs.Sheets.{contours_of, Unchanged, Analysed, Edits}

module _ {R : Type 0} (flat : R → ℤ → ℤ → ℤ → ℤ → Bool) (s t : Sheet R) (e : Edit) where
  -- an edit that the book grants
  pub granted : (cs : Contours) → outcome (contours_of s) e ≡ Ok cs → contours_of t ≡ cs → t.settings ≡ s.settings → t.rule ≡ s.rule → (Analysed flat s → Analysed flat t)
      → Edits flat s e (Ok tt) t
  granted cs o d p q a = record {
    answers = rw o;
    draws = rw o d;
    analyses = a;
    settings = p;
    rule = q;
    refused = λ f h. absurd (let z : ◌≡◌ {A = ℕ} 0 1 = cc in omega arith);
  }

  -- and one that it refuses, which may have used the room kept aside
  pub not_granted : (f : EditFault) → outcome (contours_of s) e ≡ Err f → Unchanged s t → (Analysed flat s → Analysed flat t) → contours_of t ≡ contours_of s
      → Edits flat s e (Err f) t
  not_granted f o u a d = record {
    answers = rw o;
    draws = rw o d;
    analyses = a;
    settings = u.settings;
    rule = u.rule;
    refused = λ _ _. u;
  }

-- a contour taken out, and others put in its place
module _ (cs : Contours) (k : ℕ) (there : k < length cs) where
  here : ltb k (length cs) ≡ true
  here = lt-ltb k (length cs) there

  pub others-count : point_count (others k cs) ≡ point_count cs - length (get_or cs k [])
  others-count = omega (arith, parts-count cs k there, point_count-append (take k cs) (drop (k + 1) cs))

  module _ (es : List Entry) (held : ℕ) (h : held ≡ point_count cs - length (get_or cs k [])) where
    same : held ≡ point_count (others k cs)
    same = h ∙ sym others-count

    pub replace_granted : (ds bs : Contours) → Ok ds ≡ placed held 1 SecondContour es → bs ≡ (take k cs ++ ds) ++ drop (k + 1) cs
        → outcome cs (replacing k es) ≡ Ok bs
    replace_granted ds bs e b = rw (here, ← same, ← e, b)

    pub replace_refused : (f : EditFault) → Err f ≡ placed held 1 SecondContour es → outcome cs (replacing k es) ≡ Err f
    replace_refused f e = rw (here, ← same, ← e)
