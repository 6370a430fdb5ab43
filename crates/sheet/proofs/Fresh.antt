-- An empty sheet.
use Rattle.std.proofs.Common.{◌≡◌, ℕ, Bool, List, [], length, ℤ, vec_items, vec_len, sym, refl, ap, ◌∙◌, arith}
use Rattle.std.proofs.lemmas.List.{nil_from_length}
use Rattle.outline.specs.declared.points.Point.{Point}
use Rattle.outline.specs.Units.{near_limit}
use Rattle.analysis.specs.Outlines.{Contours, point_count, outline_records}
use Rattle.drawing.specs.declared.drawings.Drawing.{Drawing}
use Rattle.drawing.specs.declared.records.Records.{Records}
use Rattle.drawing.specs.Books.{book}
use Rattle.drawing.proofs.Held.{points-held, contours-held}
use Rattle.sheet.specs.declared.sheets.Sheet.{Sheet}
use Rattle.sheet.specs.Sheets.{contours_of, records_of, Fresh}

no_records : (F : ℤ → ℤ → ℤ → ℤ → Bool) (N b : ℕ) → outline_records F N b [] ≡ []
unfolding outline_records
no_records F N b = refl

pub none-drawn : (d : Drawing) → book d ≡ [] → (vec_len d.points ≡ 0) × (vec_len d.contours ≡ 0)
none-drawn d e = (omega (arith, points-held d, ap point_count e), omega (arith, contours-held d, ap (λ (x : Contours). length x) e))

pub none_recorded : (x : Records) → vec_items x.points ≡ [] → vec_len x.points ≡ 0
none_recorded x p = omega (arith, x.points.ok.0, ap (λ (ps : List Point). length ps) p)

pub no_contours : (d : Drawing) → vec_len d.contours ≡ 0 → book d ≡ []
no_contours d e = nil_from_length (book d) (omega (arith, contours-held d))

-- no contours have no records
pub none-analysed : (F : ℤ → ℤ → ℤ → ℤ → Bool) (N : ℕ) (cs : Contours) (ps : List Point) → cs ≡ [] → ps ≡ [] → ps ≡ outline_records F N 0 cs
none-analysed F N cs ps e p = rw e (p ∙ sym (no_records F N 0))

pub fresh : {R : Type 0} (flat : R → ℤ → ℤ → ℤ → ℤ → Bool) (s : Sheet R) → contours_of s ≡ [] → records_of s ≡ [] → Fresh flat s
fresh flat s e p = record { empty = e; analysed = none-analysed (flat s.rule) (near_limit s.settings.units) (contours_of s) (records_of s) e p }
