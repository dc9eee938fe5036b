use Rattle.std.proofs.Common.{◌≡◌, ◌≤◌, ◌*◌, take}
use Rattle.std.specs.List.{sum_by}
use Rattle.gi_desk.specs.Queries.{confirmed}
use Rattle.gi_schedule.specs.Lines.{hour_total, most_hourly}
use Rattle.gi_schedule.proofs.totals.day_total.Given as goal

abbrev pub invariant-loop-at : goal.invariant-loop-at
invariant-loop-at g l = record {
  counted : l.total ≡ sum_by (hour_total (confirmed g.R.Role.SIDE l.desk) l.day l.direction l.keys) (take l.at-index l.hours);
  within : l.total ≤ l.at-index * most_hourly;
}
