use Rattle.std.proofs.Common.{◌≡◌, ◌≤◌, take}
use Rattle.gi_day_tables.specs.Totals.{hours_in_force}
use Rattle.gi_day_tables.proofs.totals.hours_in_force.Given as goal

abbrev pub invariant-loop-hour : goal.invariant-loop-hour
invariant-loop-hour l = record {
  sum : l.count ≡ hours_in_force (take l.hour-index l.hours);
  within : l.count ≤ l.hour-index;
}
