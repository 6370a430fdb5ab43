use Rattle.segments.proofs.Runs.{starts-back, starts_first}
use Rattle.segments.proofs.starts.find_start.Goals as goal

pub returns-then-is_inside_run : goal.returns-then-is_inside_run
returns-then-is_inside_run c =
    let r = starts-back c.args.dim c.args.points.now _ _ c.is_inside_run.result c.requires c.is_inside_run.ensures
    c.last_run.result c.if-is_inside_run.true c.last_run.ensures in
    record { value = r.0; within = r.1 }

pub returns-else-is_inside_run : goal.returns-else-is_inside_run
returns-else-is_inside_run c = record {
  value = starts_first c.args.dim c.args.points.now _ _ c.is_inside_run.result c.requires c.is_inside_run.ensures c.if-is_inside_run.false;
  within = c.requires;
}
