use Rattle.std.proofs.Common.{arith}
use Rattle.segments.proofs.Turns.{passing_more, passing_breaks, passing_all}
use Rattle.segments.proofs.fillings.Filling.pass.Goals as goal

pub returns-in_err-meet : goal.returns-in_err-meet
returns-in_err-meet c =
    passing_breaks c.args.self.now c.loop-i.self c.meet.new.self c.args.first c.args.points.now c.loop-i.i _ c.in_err-meet.field-0.0 c.from_residual.result
    c.loop-i.invariant (omega arith) c.in_err-meet.ensures c.from_residual.ensures.0

pub loop-i-preserved : goal.loop-i-preserved
loop-i-preserved c =
    passing_more c.args.self.now c.loop-i.self c.meet.new.self c.args.first c.args.points.now c.loop-i.i _ tt
    c.loop-i.invariant (omega arith) c.in_ok-meet.ensures

pub returns : goal.returns
returns c =
    passing_all c.args.self.now c.loop-i.self c.args.first c.args.points.now c.loop-i.i tt c.loop-i.invariant (omega arith)
