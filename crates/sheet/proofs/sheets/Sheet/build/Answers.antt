use Rattle.sheet.proofs.Read.{builds_alone, sheet_builds}
use Rattle.sheet.proofs.sheets.Sheet.build.Goals as goal

pub returns : goal.returns
returns g c =
    let o = c.outline.ensures in
    let e = c.build.ensures in
    let flat = g.R.CornerRule.flat in
    let s = c.args.self.now in
    let alone = builds_alone flat s c.args.dim c.args.table.now _ _ _ _ o.points o.contours (rw o.settings at e.drawn) in
    record {
      building = sheet_builds flat s c.args.dim c.args.table.now _ _ _ _ o.points o.contours (rw o.settings at e.stored) alone e.short;
      alone = alone;
      few = e.few;
    }
