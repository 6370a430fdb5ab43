-- What the steps of the builder leave.
use Rattle.std.proofs.Common.{◌≡◌, ℕ, Bool, true, false, cond, ◌&&◌, Some, None, Ok, Err, Option, Result, sym, ap, ◌∙◌, subst, arith}
use Rattle.std.proofs.lemmas.Bool.{cond-false}
use Rattle.std.proofs.Math.Bool.{and-true}
use Rattle.outline.specs.Directions.{same}
use Rattle.segments.specs.declared.faults.BuildFault.{BuildFault}
use Rattle.segments.specs.declared.fillings.Filling.{Filling}
use Rattle.segments.specs.declared.measures.AxisPoint.{AxisPoint}
use Rattle.segments.specs.declared.measures.Dimension.{Dimension}
use Rattle.segments.specs.declared.states.State.{State}
use Rattle.segments.specs.Fillings.{Along, Closes, Met}
use Rattle.segments.specs.Measures.{on_line}
use Rattle.segments.specs.States.{opened, taken}
use Rattle.segments.specs.Walks.{Moved, met, moved}

pub after : {f g h : Filling} → Along f g → Along g h → Along f h
after a b = record { same_table = b.same_table ∙ a.same_table; dim_is = b.dim_is ∙ a.dim_is; units_is = b.units_is ∙ a.units_is }

-- a segment closes, and the next may open
module _ (f g h : Filling) (s : State) (at : ℕ) (p : AxisPoint) (closes : Closes f g (taken s at p)) where
  entered : (opens : Bool) (walk : Option State) (r : Result Unit BuildFault) →
      Met g h (record { closed = None; opens = opens; walk = walk }) r → Met f h (record { closed = Some (taken s at p); opens = opens; walk = walk }) r
  entered opens walk (Ok x) m = record {
    along = after closes.along m.along;
    inside_is = m.inside_is;
    latest_is = m.latest_is ∙ closes.latest_is;
    held_is = m.held_is ∙ closes.held_is;
    table_is = m.table_is ∙ closes.table_is;
    few = m.few;
  }
  entered opens walk (Err e) m = (m.0, omega (arith, m.1, closes.held_is))

  entered_by : (j : Bool) (r : Result Unit BuildFault) →
      Met g h (cond j (record { closed = None; opens = true; walk = Some (opened at p) }) (record { closed = None; opens = false; walk = None })) r →
      Met f h (cond j (record { closed = Some (taken s at p); opens = true; walk = Some (opened at p) }) (record { closed = Some (taken s at p); opens = false; walk = None })) r
  entered_by true r m = entered true (Some (opened at p)) r m
  entered_by false r m = entered false None r m

  pub met-after : (r : Result Unit BuildFault) → f.inside ≡ Some s → same p.out_dir s.dir ≡ false →
      Met g h (met g.dim None at p false) r → Met f h (moved f.dim f.inside at p false) r
  met-after r inside_is off m =
      let e : moved f.dim f.inside at p false ≡ met f.dim (Some (taken s at p)) at p false
      = ap (λ (o : Option State). moved f.dim o at p false) inside_is ∙ cond-false _ _ _ (and-true _ ∙ off) in
      subst (λ (m : Moved). Met f h m r) (sym e)
      (entered_by (on_line f.dim p.out_dir && true) r (subst (λ (d : Dimension). Met g h (met d None at p false) r) closes.along.dim_is m))
