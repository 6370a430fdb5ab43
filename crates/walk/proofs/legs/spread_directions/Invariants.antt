use Rattle.walk.proofs.Spreads.{Back}
use Rattle.walk.proofs.legs.spread_directions.Given as goal

-- from k on it is done, and below k nothing has changed
abbrev pub invariant-loop-k : goal.invariant-loop-k
invariant-loop-k l = Back l.initial.legs l.legs l.k l.dir
