use Rattle.std.proofs.Common.{◌≡◌, length, take}
use Rattle.gi_page.specs.DayBook.{cycles_in}
use Rattle.gi_page.specs.Flows.{hours_of}
use Rattle.gi_page.proofs.flows.hours.Given as goal

abbrev pub invariant-loop-hour : goal.invariant-loop-hour
invariant-loop-hour g l = record {
  value : l.hours.items ≡ hours_of g.R.Role.SIDE l.desk l.day l.keys (cycles_in (take l.hour-index l.books));
  count : length l.hours.items ≡ l.hour-index;
}
