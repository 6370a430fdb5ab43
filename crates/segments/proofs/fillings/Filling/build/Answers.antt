use Rattle.std.proofs.Common.{refl, arith, ltb-true, ltb-false}
use Rattle.segments.proofs.Contours.{none-answer, lone-answer}
use Rattle.segments.proofs.fillings.Filling.build.Goals as goal

pub returns-in-empty : goal.returns-in-empty
returns-in-empty c =
    none-answer c.args.self.now _ (record { along = record { same_table = refl; dim_is = refl; units_is = refl }; held_is = refl; table_is = refl }) c.args.first c.args.points.now tt
    (omega (arith, ltb-true))

pub returns-in-len1 : goal.returns-in-len1
returns-in-len1 c =
    lone-answer c.args.self.now _ (record { along = record { same_table = refl; dim_is = refl; units_is = refl }; held_is = refl; table_is = refl }) c.args.first c.build_lone.new.self
    c.args.points.now _ c.build_lone.result (omega (arith, ltb-true, ltb-false)) (omega (arith, ltb-true, ltb-false)) c.build_lone.ensures
