use Rattle.std.proofs.Common.{◌≡◌, length}
use Rattle.gi_page.specs.Shown.{hour_cycles}
use Rattle.gi_page.proofs.shown.hour_cycles.Given as goal

abbrev pub invariant-loop-before : goal.invariant-loop-before
invariant-loop-before g l = record {
  value : l.cycles.items ≡ hour_cycles g.R.Role.SIDE l.desk l.day l.before;
  count : length l.cycles.items ≡ l.before;
}
