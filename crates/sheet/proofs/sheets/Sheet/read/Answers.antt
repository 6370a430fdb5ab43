use Rattle.std.proofs.Common.{◌∙◌}
use Rattle.sheet.proofs.Read.{reads_alone, sheet_reads, linked_alone}
use Rattle.sheet.proofs.sheets.Sheet.read.Goals as goal

pub returns : goal.returns
returns g c =
    let o = c.outline.ensures in
    let e = c.read.ensures in
    let w = o.orientation ∙ c.orientation.ensures in
    let flat = g.R.CornerRule.flat in
    let s = c.args.self.now in
    let alone = reads_alone flat s c.args.dim c.args.table.now _ _ _ _ o.points o.contours _ w (rw o.settings at e.drawn) in
    record {
      reading = sheet_reads flat s c.args.dim c.args.table.now _ _ _ _ o.points o.contours _ w alone e.short (rw o.settings at e.stems);
      stored = linked_alone flat s c.args.dim c.args.table.now _ _ _ _ o.points o.contours _ w (rw o.settings at e.stored);
      alone = alone;
      few = e.few;
    }
