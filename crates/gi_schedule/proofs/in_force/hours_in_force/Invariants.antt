use Rattle.std.proofs.Common.{◌≡◌, ◌-◌}
use Rattle.std.specs.List.{flat_map, range_with_len}
use Rattle.gi_desk.specs.Queries.{confirmed}
use Rattle.gi_schedule.specs.InForce.{cycle_in_force, hour_if}
use Rattle.gi_schedule.proofs.in_force.hours_in_force.Given as goal

abbrev pub invariant-loop-hour : goal.invariant-loop-hour
invariant-loop-hour g l = l.hours.items ≡ flat_map (λ hour. hour_if hour (cycle_in_force (confirmed g.R.Role.SIDE l.desk) l.day hour)) (range_with_len 1 (l.hour - 1))
