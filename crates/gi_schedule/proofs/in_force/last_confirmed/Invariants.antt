use Rattle.std.proofs.Common.{◌≡◌, is_some}
use Rattle.gi_desk.specs.Queries.{confirmed}
use Rattle.gi_schedule.specs.InForce.{cycle_of, last_below}
use Rattle.gi_schedule.proofs.in_force.last_confirmed.Given as goal

abbrev pub invariant-loop-cycle : goal.invariant-loop-cycle
invariant-loop-cycle g l = l.found ≡ last_below (λ cycle. is_some (confirmed g.R.Role.SIDE l.desk (cycle_of l.day cycle))) l.cycle
