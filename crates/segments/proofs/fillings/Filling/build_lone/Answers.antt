use Rattle.std.proofs.Common.{ap, ◌∙◌, subst}
use Rattle.segments.specs.declared.states.State.{State}
use Rattle.segments.specs.Fillings.{Closes, OpensAs}
use Rattle.segments.specs.States.{opened}
use Rattle.segments.proofs.Turns.{lone-built}
use Rattle.segments.proofs.fillings.Filling.build_lone.Goals as goal

pub returns : goal.returns
returns c =
    let is = c.open-state.ensures ∙ ap (opened c.args.first) c.read.ensures in
    lone-built c.args.self.now c.begin.new.self c.close.new.self c.args.first _ tt c.requires.none
    (subst (λ (s : State). OpensAs c.args.self.now c.begin.new.self s) is c.in_ok-begin.ensures)
    (subst (λ (s : State). Closes c.begin.new.self c.close.new.self s) is c.close.ensures)
