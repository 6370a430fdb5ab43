use Rattle.std.proofs.Common.{sym, refl, ◌∙◌}
use Rattle.std.proofs.lemmas.List.{nil_from_length}
use Rattle.sheet.proofs.Alone.{contours-alone}
use Rattle.sheet.proofs.Fresh.{no_contours, fresh}
use Rattle.sheet.proofs.Runs.{history, links_mutual}
use Rattle.sheet.proofs.sheets.Sheet.in_room.Goals as goal

pub returns : goal.returns
returns g c =
    let flat = g.R.CornerRule.flat in
    let room = c.args.room in
    let new = fresh flat _ (no_contours room.drawing room.no_contours) (nil_from_length _ (sym room.records.points.ok.0 ∙ room.no_records)) in
    record {
      settings = refl;
      rule = refl;
      fresh = new;
      history = history flat flat _ new;
      stems = links_mutual flat _ new;
      alone = contours-alone flat flat _ new;
    }
