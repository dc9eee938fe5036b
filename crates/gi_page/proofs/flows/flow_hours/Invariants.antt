use Rattle.std.proofs.Common.{◌≡◌, length, take}
use Rattle.gi_page.specs.DayBook.{cycles_in}
use Rattle.gi_page.specs.Flows.{flow_hours}
use Rattle.gi_page.proofs.flows.flow_hours.Given as goal

abbrev pub invariant-loop-hour : goal.invariant-loop-hour
invariant-loop-hour g l = record {
  value : l.flows.items ≡ flow_hours g.R.Role.SIDE l.desk l.day (cycles_in (take l.hour-index l.books)) l.key;
  count : length l.flows.items ≡ l.hour-index;
}
