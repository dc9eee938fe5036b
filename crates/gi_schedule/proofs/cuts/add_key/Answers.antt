use Rattle.std.proofs.Common.{◌≤◌, ℕ, List, ap, arith}
use Rattle.std.specs.Option.{option_copied}
use Rattle.gi_schedule.specs.Cuts.{hour_cut, if_cut}
use Rattle.gi_schedule.specs.declared.cut_line.CutLine.{CutLine}
use Rattle.gi_schedule.proofs.InForceLemmas.{number_added}
use Rattle.gi_schedule.proofs.cuts.add_key.Goals as goal

pub loop-hour-preserved : goal.loop-hour-preserved
loop-hour-preserved c =
    let tables = c.args.tables.now in
    let of : ℕ → List CutLine = λ hour. if_cut (hour_cut c.args.id.now c.args.key.now (option_copied c.args.line) tables.own.now tables.peer.now tables.confirmed.now hour) in
    let above : tables.own.now.first ≤ c.loop-hour.hour = omega (arith, c.first-hour.ensures, c.loop-hour.auto.hour) in
    number_added of tables.own.now.first c.loop-hour.hour c.args.lines.now.items c.loop-hour.lines.items (if_cut c.hour_cut.result) c.add_if_cut.new.lines.items
    above c.loop-hour.invariant (ap if_cut c.hour_cut.ensures) c.in_ok-add_if_cut.ensures
