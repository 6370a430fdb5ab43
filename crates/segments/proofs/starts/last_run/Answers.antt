use Rattle.std.proofs.Common.{rules}
use Rattle.segments.proofs.Runs.{run-found}
use Rattle.segments.proofs.starts.last_run.Goals as goal

pub returns : goal.returns
returns c = run-found c.args.dim c.args.points.now c.last_off.result c.map_or.result c.last_off.ensures (search rules)
