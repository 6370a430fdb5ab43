-- The linking rule, over two segments (af_latin_hints_link_segments).
use Rattle.std.specs.Prelude.{◌≡◌, ℕ, ◌+◌, ◌-◌, ◌*◌, ◌/◌, ◌<◌, max, Bool, cond, ◌&&◌, ℤ, pos, negsuc, ◌-ℤ◌, Some, None, Option, ◌==◌, int_lt, nat_le, nat_lt}
use Rattle.std.specs.Int.{int_min, int_max}
use Rattle.std.proofs.Common.{refl, arith}
use Rattle.outline.specs.declared.directions.Direction.{Direction}
use Rattle.outline.specs.declared.units.Settings.{Settings}
use Rattle.outline.specs.Directions.{same, opposite}
use Rattle.segments.specs.declared.tables.Segment.{Segment}
use Rattle.linking.specs.declared.rules.Rule.{Rule}
use Rattle.linking.specs.Reverse.{reverse}

-- T, the least overlap of partners: the larger of 1 and 8 U / 2048
abbrev pub overlap_threshold : ℕ → ℕ
overlap_threshold u = max 1 (8 * u / 2048)

-- Q, which an overlap divides: 6000 U / 2048
abbrev pub length_weight : ℕ → ℕ
length_weight u = 6000 * u / 2048

-- what a rule always keeps, each under a name, so that equal settings make equal rules
pub never-zero : (u : ℕ) → 0 < overlap_threshold u
never-zero u = omega arith

pub other-way : (m : Direction) → reverse m ≡ reverse m
other-way m = refl

-- the rule at units u, the standard stem width w and the major direction m
abbrev pub rule_of : ℕ → ℕ → Direction → Rule
rule_of u w m = record { threshold = overlap_threshold u; weight = length_weight u; width = w; major = m; minor = reverse m; some_overlap = never-zero u; opposed = other-way m }

abbrev pub rule_by : Settings → Direction → Rule
rule_by s m = rule_of s.units s.width m

-- a difference, and 0 for a negative one
abbrev pub clip : ℤ → ℕ
clip (pos n) = n
clip (negsuc n) = 0

-- how far `to` is beyond `from`, or 0 where it is not
abbrev pub away : ℤ → ℤ → ℕ
away to from = clip (to -ℤ from)

-- the overlap of two segments, or 0: the smaller greatest coordinate less the larger least
abbrev pub overlap : Segment → Segment → ℕ
overlap a b = away (int_min a.max_coord.0 b.max_coord.0) (int_max a.min_coord.0 b.min_coord.0)

-- e, by which a distance is beyond the stem width, in parts of 1024 of it; 0 where it is not
abbrev pub excess : ℕ → ℕ → ℕ
excess w d = 1024 * d / w - 1024

-- what a distance costs: itself where there is no stem width; else e² / 3000 up to e = 10,000, and 32,000 above
abbrev pub demerit : ℕ → ℕ → ℕ
demerit w d = cond (w == 0) d (cond (nat_lt 10000 (excess w d)) 32000 (excess w d * excess w d / 3000))

-- a of the major direction, b of the opposite one, b's position greater
abbrev pub faces : Rule → Segment → Segment → Bool
faces r a b = same a.dir r.major && opposite r.major b.dir && int_lt a.pos.0 b.pos.0

-- the test of partners: so, and the overlap long enough
abbrev pub meets : Rule → Segment → Segment → Bool
meets r a b = faces r a b && nat_le r.threshold (overlap a b)

-- the score of partners: what the distance costs, and Q / L
abbrev pub cost : Rule → Segment → Segment → ℕ
cost r a b = demerit r.width (away b.pos.0 a.pos.0) + r.weight / overlap a b

-- the score of a pair, if they are partners
abbrev pub pair_score : Rule → Segment → Segment → Option ℕ
pair_score r a b = cond (meets r a b) (Some (cost r a b)) None

-- the same as a number: 32,000 where they are no partners
abbrev pub price : Rule → Segment → Segment → ℕ
price r a b = cond (meets r a b) (cost r a b) 32000
