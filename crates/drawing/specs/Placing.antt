-- What becomes of a source's points when they are placed.
use Rattle.std.specs.Prelude.{ℕ, ◌+◌, Bool, cond, ◌&&◌, ◌||◌, List, [], ◌∷◌, ◌++◌, length, Ok, Err, Result, ◌==◌, nat_lt}
use Rattle.outline.specs.declared.points.DrawnPoint.{DrawnPoint}
use Rattle.unscaled.specs.declared.points.UnscaledPoint.{UnscaledPoint}
use Rattle.unscaled.specs.Entries.{Entry}
use Rattle.unscaled.specs.Placements.{in_range}
use Rattle.analysis.specs.Outlines.{Contours}
use Rattle.drawing.specs.declared.faults.EditFault.{EditFault}
use Rattle.drawing.specs.declared.faults.EditFault.TheVariants.{NoPoints, TooManyPoints, OutOfRange, Source}

-- what follows a check, unless it refuses
abbrev pub follow : {X Y : Type 0} → Result X EditFault → (X → Result Y EditFault) → Result Y EditFault
follow (Ok x) k = k x
follow (Err f) k = Err f

-- a point as a sheet holds it, within ±16,383
abbrev pub admitted : UnscaledPoint → Result DrawnPoint EditFault
admitted p = cond (in_range p.x && in_range p.y) (Ok (record { x = p.x; y = p.y; kind = p.kind })) (Err OutOfRange)

-- one point more in the last contour; the first point of all opens one
abbrev pub lengthened : Contours → DrawnPoint → Contours
lengthened [] q = (q ∷ []) ∷ []
lengthened (c ∷ []) q = (c ++ q ∷ []) ∷ []
lengthened (c ∷ (d ∷ ds)) q = c ∷ lengthened (d ∷ ds) q

-- a point opens a contour where it is marked, or the first; there may be so many contours, and `beyond` refuses another
abbrev pub extended : ℕ → EditFault → Contours → Bool → DrawnPoint → Result Contours EditFault
extended most beyond cs start q =
    cond (start || length cs == 0)
    (cond (nat_lt (length cs) most) (Ok (cs ++ (q ∷ []) ∷ [])) (Err beyond))
    (Ok (lengthened cs q))

-- the contours cs, with what an entry adds: its fault, then its range, then the contours' number
abbrev pub entered : ℕ → EditFault → Contours → Entry → Result Contours EditFault
entered most beyond cs (Err f) = Err (Source f)
entered most beyond cs (Ok p) = follow (admitted p) (extended most beyond cs p.is_contour_start)

-- the same of each entry in order
abbrev pub drawn_from : ℕ → EditFault → Contours → List Entry → Result Contours EditFault
drawn_from most beyond cs [] = Ok cs
drawn_from most beyond cs (e ∷ es) = follow (entered most beyond cs e) (λ ds. drawn_from most beyond ds es)

-- the contours of a source: some points, at most 2,048 with those that a sheet holds beside them, each as it may be entered
abbrev pub placed : ℕ → ℕ → EditFault → List Entry → Result Contours EditFault
placed held most beyond es =
    cond (length es == 0) (Err NoPoints)
    (cond (nat_lt 2048 (held + length es)) (Err TooManyPoints) (drawn_from most beyond [] es))

-- an answer, with the contours that are there when it is no refusal
abbrev pub with_contours : Result (Unit {0}) EditFault → Contours → Result Contours EditFault
with_contours (Ok u) cs = Ok cs
with_contours (Err f) cs = Err f
