-- The settings' ranges, and the numbers of their refusals.
use Rattle.std.specs.Prelude.{◌≡◌, ℕ, ◌*◌, ◌/◌, ◌≤◌}
use Rattle.outline.specs.declared.units.Settings.{Settings}
use Rattle.outline.specs.declared.units.checks.SettingsFault.{SettingsFault}
use Rattle.outline.specs.declared.units.checks.SettingsFault.TheVariants.{Units, Width}

abbrev pub number : SettingsFault → ℕ
number Units = 1
number Width = 2

-- units per em from 16 to 16,384
abbrev pub UnitsFit : ℕ → Type 0
UnitsFit u = (16 ≤ u) × (u ≤ 16384)

-- a stem width of at most 16,383
abbrev pub WidthFits : ℕ → Type 0
WidthFits w = w ≤ 16383

-- settings are accepted where both fit, and hold what was given
abbrev pub Accepted : ℕ → ℕ → Settings → Type 0
Accepted u w s = UnitsFit u × WidthFits w × (s.units ≡ u) × (s.width ≡ w)

-- which refusal comes: units that do not fit, before a width that does not
abbrev pub Refused : ℕ → ℕ → SettingsFault → Type 0
Refused u w Units = UnitsFit u → ⊥
Refused u w Width = UnitsFit u × (WidthFits w → ⊥)

-- N, the length below which a step is near: 20 U / 2048 (af_glyph_hints_reload)
abbrev pub near_limit : ℕ → ℕ
near_limit u = 20 * u / 2048
