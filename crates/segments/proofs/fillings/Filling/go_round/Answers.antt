use Rattle.segments.proofs.Turns.{head, round-breaks, round-breaks_late, round-built}
use Rattle.segments.proofs.fillings.Filling.go_round.Goals as goal

pub returns-in_err-pass : goal.returns-in_err-pass
returns-in_err-pass c =
    round-breaks c.args.self.now c.args.first c.args.points.now c.find_start-start.result (head c.args.points.now c.requires.points)
    c.find_start-start.ensures.within c.find_start-start.ensures.value c.requires.outside c.requires.none
    c.pass.new.self _ c.in_err-pass.field-0.0 c.from_residual.result c.split_at.ensures.back c.in_err-pass.ensures c.from_residual.ensures.0

pub returns-in_err-pass-2 : goal.returns-in_err-pass-2
returns-in_err-pass-2 c =
    round-breaks_late c.args.self.now c.args.first c.args.points.now c.find_start-start.result (head c.args.points.now c.requires.points)
    c.find_start-start.ensures.within c.find_start-start.ensures.value c.requires.outside c.requires.none
    c.pass.new.self c.pass-2.new.self _ _ tt c.split_at.ensures.back c.split_at.ensures.front c.in_ok-pass.ensures
    c.in_err-pass-2.field-0.0 c.from_residual-in_err-pass-2.result c.in_err-pass-2.ensures c.from_residual-in_err-pass-2.ensures.0

pub returns : goal.returns
returns c =
    round-built c.args.self.now c.args.first c.args.points.now c.find_start-start.result _
    c.find_start-start.ensures.within c.find_start-start.ensures.value c.requires.outside c.requires.none
    c.pass.new.self c.pass-2.new.self _ _ tt c.split_at.ensures.back c.split_at.ensures.front c.in_ok-pass.ensures
    c.finish.new.self tt tt c.in_ok-pass-2.ensures c.finish.ensures
