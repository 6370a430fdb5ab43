-- The bytes of a drawing record, high bytes first: version, two of length (of all that follows), two of units,
-- two of width, corner code; then the points, each two bytes of x, two of y, one of kind.
use Rattle.std.specs.Prelude.{ℕ, ◌+◌, ◌*◌, ◌%◌, cond, not, ◌||◌, List, [], ◌∷◌, length, drop, ℤ, Ok, Err, Result, ◌==◌, nat_le, nat_lt, slice_index}
use Rattle.std.specs.Int.{w16, cast_signed}
use Rattle.outline.specs.declared.points.PointKind.TheVariants.{Control, OnCurve}
use Rattle.outline.specs.declared.units.checks.SettingsFault.TheVariants.{Units, Width}
use Rattle.unscaled.specs.declared.faults.FaultReason.TheVariants.{UnknownKind}
use Rattle.unscaled.specs.declared.headers.CornerCode.{CornerCode}
use Rattle.unscaled.specs.declared.headers.CornerCode.TheVariants.{Jit, Aot}
use Rattle.unscaled.specs.declared.headers.Header.{Header}
use Rattle.unscaled.specs.declared.headers.RecordFault.{RecordFault}
use Rattle.unscaled.specs.declared.headers.RecordFault.TheVariants.{TooShort, UnknownVersion, WrongLength, PartialPoint, UnknownCorner, Settings}
use Rattle.unscaled.specs.Entries.{Entry}
use Rattle.unscaled.specs.Faults.{origin}

-- what a header tells
pub record Values : Type 0 where
  pub units : ℕ
  pub width : ℕ
  pub corner : CornerCode

-- an answer of the reader, by the values that it holds
abbrev pub told : Result Header RecordFault → Result Values RecordFault
told (Ok h) = Ok (record { units = h.settings.units; width = h.settings.width; corner = h.corner })
told (Err e) = Err e

-- a byte by its place, and a number of two
abbrev pub byte : List ℕ → ℕ → ℕ
byte bs i = slice_index bs i

abbrev pub word : List ℕ → ℕ → ℕ
word bs i = byte bs i * 256 + byte bs (i + 1)

-- the bytes of the points
abbrev pub body : List ℕ → List ℕ
body bs = drop 8 bs

-- code 0 is Jit, code 1 Aot
abbrev pub corner_of : ℕ → CornerCode
corner_of code = cond (code == 0) Jit Aot

-- the values in the bytes, or the first check that fails
abbrev pub header : List ℕ → Result Values RecordFault
header bs =
    cond (nat_lt (length bs) 8) (Err TooShort)
    (cond (not (byte bs 0 == 1)) (Err UnknownVersion)
    (cond (not (word bs 1 + 3 == length bs)) (Err WrongLength)
    (cond (not (length (body bs) % 5 == 0)) (Err PartialPoint)
    (cond (nat_lt 1 (byte bs 7)) (Err UnknownCorner)
    (cond (nat_lt (word bs 3) 16 || nat_lt 16384 (word bs 3)) (Err (Settings Units))
    (cond (nat_lt 16383 (word bs 5)) (Err (Settings Width))
    (Ok (record { units = word bs 3; width = word bs 5; corner = corner_of (byte bs 7) }))))))))

-- a signed number of two bytes, two's complement
abbrev pub signed : ℕ → ℕ → ℤ
signed high low = cast_signed w16 (high * 256 + low)

-- the entry that five bytes make; the kind is 1 on the curve, plus 2 for a contour start
abbrev pub entry_of : ℕ → ℕ → ℕ → ℕ → ℕ → ℕ → Entry
entry_of i xh xl yh yl kind =
    cond (nat_le kind 3)
    (Ok (record { x = signed xh xl; y = signed yh yl; kind = cond (kind % 2 == 1) OnCurve Control; is_contour_start = nat_le 2 kind }))
    (Err (origin UnknownKind i))

-- the entries in the bytes of points, counted from i; fewer than five bytes make none
unfoldable pub entries_from : ℕ → List ℕ → List Entry
entries_from i [] = []
entries_from i (a ∷ []) = []
entries_from i (a ∷ (b ∷ [])) = []
entries_from i (a ∷ (b ∷ (c ∷ []))) = []
entries_from i (a ∷ (b ∷ (c ∷ (d ∷ [])))) = []
entries_from i (xh ∷ (xl ∷ (yh ∷ (yl ∷ (kind ∷ rest))))) = entry_of i xh xl yh yl kind ∷ entries_from (i + 1) rest

abbrev pub entries : List ℕ → List Entry
entries bs = entries_from 0 bs
