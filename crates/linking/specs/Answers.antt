-- What `link` answers, and the table after it.
use Rattle.std.specs.Prelude.{ℕ, cond, ◌||◌, List, length, Ok, Err, Result, nat_lt}
use Rattle.outline.specs.declared.directions.Direction.{Direction}
use Rattle.outline.specs.declared.units.checks.SettingsFault.TheVariants.{Units, Width}
use Rattle.outline.specs.Units as settings
use Rattle.segments.specs.declared.tables.Segment.{Segment}
use Rattle.linking.specs.declared.linker.LinkFault.{LinkFault}
use Rattle.linking.specs.declared.linker.LinkFault.TheVariants.{Settings, TooManyEntries, TableTooShort}
use Rattle.linking.specs.Rules.{rule_of}
use Rattle.linking.specs.Links.{linked_table}

-- the number of each refusal
abbrev pub number : LinkFault → ℕ
number (Settings f) = settings.number f
number TooManyEntries = 16
number TableTooShort = 16

-- checks run downwards: units 16 to 16,384, width to 16,383, at most 1,001 entries, no more than the table has
abbrev pub answer : ℕ → ℕ → ℕ → ℕ → Result (Unit {0}) LinkFault
answer u w n size =
    cond (nat_lt u 16 || nat_lt 16384 u) (Err (Settings Units))
    (cond (nat_lt 16383 w) (Err (Settings Width))
    (cond (nat_lt 1001 n) (Err TooManyEntries)
    (cond (nat_lt size n) (Err TableTooShort) (Ok tt))))

-- what is left where the answer is no refusal, and where it is one
abbrev pub after : Result (Unit {0}) LinkFault → List Segment → List Segment → List Segment
after (Ok x) ys xs = ys
after (Err e) ys xs = xs

-- the table after the call: linked, or as it was
abbrev pub table_after : ℕ → ℕ → Direction → ℕ → List Segment → List Segment
table_after u w m n xs = after (answer u w n (length xs)) (linked_table (rule_of u w m) n xs) xs
