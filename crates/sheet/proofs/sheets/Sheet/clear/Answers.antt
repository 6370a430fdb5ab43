use Rattle.std.proofs.Common.{refl}
use Rattle.sheet.proofs.Fresh.{none-analysed}
use Rattle.sheet.proofs.Outcomes.{granted}
use Rattle.sheet.proofs.sheets.Sheet.clear.Goals as goal

pub returns : goal.returns
returns g c =
    granted g.R.CornerRule.flat c.args.self.now _ _ _ refl c.clear.ensures.book refl refl (λ _. none-analysed _ _ _ _ c.clear.ensures.book c.clear-2.ensures.value)
