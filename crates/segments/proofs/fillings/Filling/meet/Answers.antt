use Rattle.std.proofs.Common.{◌≡◌, false, sym, ◌∙◌, subst}
use Rattle.segments.specs.declared.measures.AxisPoint.{AxisPoint}
use Rattle.segments.specs.declared.states.State.{State}
use Rattle.segments.specs.Fillings.{Closes, Met}
use Rattle.segments.specs.Walks.{moved}
use Rattle.segments.proofs.Steps.{met-after}
use Rattle.segments.proofs.fillings.Filling.meet.Goals as goal

pub returns-in-Some-2 : goal.returns-in-Some-2
returns-in-Some-2 c =
    let e : c.in-Some.state ≡ c.in-Some-2.state = cc in
    let off = sym c.goes_on.ensures ∙ c.if-goes_on.false in
    subst (λ (p : AxisPoint). Met c.args.self.now c.enter-in-Some-2.new.self (moved c.args.self.now.dim c.args.self.now.inside c.args.at p false) c.enter-in-Some-2.result)
    c.read-point.ensures
    (met-after _ _ _ c.in-Some-2.state _ _
    (subst (λ (s : State). Closes c.args.self.now c.close.new.self s) c.take_in-in-Some-2.ensures c.close.ensures)
    c.enter-in-Some-2.result c.in-Some-2.is (cc) c.enter-in-Some-2.ensures)
