use Rattle.sheet.proofs.Fresh.{none-drawn, none_recorded}
use Rattle.sheet.proofs.rooms.SheetRoom.new.Goals as goal

pub invariant_of-result : goal.invariant_of-result
invariant_of-result c =
    let d = none-drawn c.in_ok-drawing.drawing c.in_ok-drawing.ensures in
    record { no_points = d.0; no_contours = d.1; no_records = none_recorded c.in_ok-records.records c.in_ok-records.ensures }
