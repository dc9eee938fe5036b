use Rattle.std.proofs.Common.{◌≤◌, take, arith, length-take}
use Rattle.std.proofs.lemmas.List.Sums.{length-filter, count_by-le-length}
use Rattle.gi_reports.specs.Counts.{is_confirmed}
use Rattle.gi_live.proofs.answering.confirmed_count.Goals as goal

pub overflow_add-count : goal.overflow_add-count
overflow_add-count g c =
    let front = take c.loop-id.id-index c.args.ids.now in
    let counted = length-filter (is_confirmed g.R.Role.SIDE c.args.desk.now) front in
    let few = count_by-le-length (is_confirmed g.R.Role.SIDE c.args.desk.now) front in
    let long = length-take c.loop-id.id-index c.args.ids.now in
    let within : c.loop-id.count ≤ c.loop-id.id-index = omega (arith, counted, few, long, c.loop-id.invariant) in
    grind (arith, within)
