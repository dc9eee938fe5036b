use Rattle.std.proofs.Common.{sym, ◌∙◌}
use Rattle.gi_desk.specs.Queries.{confirmed}
use Rattle.gi_schedule.specs.InForce.{is_covered}
use Rattle.gi_schedule.proofs.InForceLemmas.{last_passes, last_stays, none_below}
use Rattle.gi_schedule.proofs.in_force.last_before.Goals as goal
use Rattle.gi_schedule.proofs.in_force.last_before.Goals.{then-is_covered, else-is_covered}

pub loop-cycle-init : goal.loop-cycle-init
loop-cycle-init g c = sym (none_below (is_covered (confirmed g.R.Role.SIDE c.args.desk.now) c.args.day c.args.hour))

pub loop-cycle-preserved : goal.loop-cycle-preserved
loop-cycle-preserved g c =
    let test = is_covered (confirmed g.R.Role.SIDE c.args.desk.now) c.args.day c.args.hour in
    elim c.if-is_covered.branch [
      | then-is_covered w ↦ w.found-is ∙ last_passes test c.loop-cycle.cycle c.is_covered.result c.is_covered.ensures w.if-is_covered.true
      | else-is_covered w ↦ w.found-is ∙ last_stays test c.loop-cycle.cycle c.is_covered.result c.loop-cycle.found c.is_covered.ensures w.if-is_covered.false c.loop-cycle.invariant
    ]
