use Rattle.std.proofs.Common.{ℕ, Bool, ap, sym, ◌∙◌, is_some}
use Rattle.gi_desk.specs.Queries.{confirmed}
use Rattle.gi_schedule.specs.InForce.{cycle_of}
use Rattle.gi_schedule.proofs.InForceLemmas.{last_passes, last_stays, none_below, some_copied}
use Rattle.gi_schedule.proofs.in_force.last_confirmed.Goals as goal
use Rattle.gi_schedule.proofs.in_force.last_confirmed.Goals.{then-is_some, else-is_some}

pub loop-cycle-init : goal.loop-cycle-init
loop-cycle-init g c = sym (none_below (λ cycle. is_some (confirmed g.R.Role.SIDE c.args.desk.now (cycle_of c.args.day cycle))))

pub loop-cycle-preserved : goal.loop-cycle-preserved
loop-cycle-preserved g c =
    let test : ℕ → Bool = λ cycle. is_some (confirmed g.R.Role.SIDE c.args.desk.now (cycle_of c.args.day cycle)) in
    let is = c.is_some.ensures ∙ some_copied c.confirmed.result ∙ ap is_some c.confirmed.ensures in
    elim c.if-is_some.branch [
      | then-is_some w ↦ w.found-is ∙ last_passes test c.loop-cycle.cycle c.is_some.result is w.if-is_some.true
      | else-is_some w ↦ w.found-is ∙ last_stays test c.loop-cycle.cycle c.is_some.result c.loop-cycle.found is w.if-is_some.false c.loop-cycle.invariant
    ]
