use Rattle.std.proofs.Common.{◌≤◌, ℕ, List, ap, arith}
use Rattle.gi_desk.specs.Queries.{confirmed}
use Rattle.gi_changes.specs.Changes.{hour_change, if_changed}
use Rattle.gi_changes.specs.declared.change_line.ChangeLine.{ChangeLine}
use Rattle.gi_schedule.proofs.InForceLemmas.{number_added}
use Rattle.gi_changes.proofs.changes.add_key.Goals as goal

pub loop-hour-preserved : goal.loop-hour-preserved
loop-hour-preserved g c =
    let table = c.args.table.now in
    let of : ℕ → List ChangeLine = λ hour. if_changed (hour_change (confirmed g.R.Role.SIDE c.args.desk.now) c.args.id.now c.args.key.now table hour) in
    let above : table.first ≤ c.loop-hour.hour = omega (arith, c.first-hour.ensures, c.loop-hour.auto.hour) in
    number_added of table.first c.loop-hour.hour c.args.lines.now.items c.loop-hour.lines.items (if_changed c.hour_change.result) c.add_if_changed.new.lines.items
    above c.loop-hour.invariant (ap if_changed c.hour_change.ensures) c.in_ok-add_if_changed.ensures
