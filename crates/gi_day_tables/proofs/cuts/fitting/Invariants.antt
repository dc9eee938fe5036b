use Rattle.std.proofs.Common.{◌≡◌, ◌≤◌, ◌+◌, drop}
use Rattle.gi_day_tables.specs.Cuts.{fitting}
use Rattle.gi_day_tables.proofs.cuts.fitting.Given as goal

abbrev pub invariant-loop-cut : goal.invariant-loop-cut
invariant-loop-cut l = record {
  rest : l.count + fitting l.left (drop l.cut-index l.cuts) ≡ fitting l.fn.room l.cuts;
  within : l.count ≤ l.cut-index;
}
