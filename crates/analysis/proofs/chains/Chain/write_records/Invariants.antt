use Rattle.std.proofs.Common.{◌≡◌, ℕ, ◌<◌, get_or}
use Rattle.analysis.specs.Records.{record_at}
use Rattle.analysis.proofs.chains.Chain.write_records.Given as goal

abbrev pub invariant-loop-i : goal.invariant-loop-i
invariant-loop-i l =
    (k : ℕ) → k < l.i → get_or l.out k (record_at 0 0 l.self.points.now l.self.marks.now 0) ≡ record_at l.near_limit l.base l.self.points.now l.self.marks.now k
