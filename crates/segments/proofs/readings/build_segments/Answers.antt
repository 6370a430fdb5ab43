use Rattle.std.proofs.Common.{ℕ, ◌-◌, ◌≤◌, ◌++◌, length, take, ap, ◌∙◌, arith}
use Rattle.segments.specs.Readings.{blanks, Read}
use Rattle.segments.proofs.Contours.{read_is, used_few}
use Rattle.segments.proofs.Overfull.{read_justly}
use Rattle.segments.proofs.Within.{read-within}
use Rattle.segments.proofs.readings.build_segments.Goals as goal

pub blank_from-requires : goal.blank_from-requires
blank_from-requires c =
    let few : c.unwrap_or.result ≤ 1001
    = used_few c.args.dim c.units.result c.args.points.now c.args.contours.now c.args.table.now c.fill-filled.new.table
    c.fill-filled.result _ c.unwrap_or.result c.fill-filled.ensures c.unwrap_or.ensures (omega arith) in
    omega arith

pub returns : goal.returns
returns c =
    let r : Read c.args.dim c.args.settings.now.units c.args.points.now c.args.contours.now c.args.table.now c.blank_from.new.table c.fill-filled.result
    = read_is c.args.dim c.units.result c.args.settings.now.units c.args.points.now c.args.contours.now
    c.args.table.now c.fill-filled.new.table c.blank_from.new.table c.units.ensures.value (omega arith)
    c.fill-filled.result c.fill-filled.ensures
    (c.blank_from.ensures ∙ ap (λ (n : ℕ). take n c.fill-filled.new.table ++ blanks (length c.fill-filled.new.table - n)) c.unwrap_or.ensures) in
    record {
      read = r;
      justly = read_justly c.args.dim c.args.settings.now.units c.args.points.now c.args.contours.now
          c.args.table.now c.blank_from.new.table c.fill-filled.result r;
      within = read-within c.args.dim c.args.settings.now.units c.args.points.now c.args.contours.now
          c.args.table.now c.blank_from.new.table c.fill-filled.result c.requires.contours r;
    }
