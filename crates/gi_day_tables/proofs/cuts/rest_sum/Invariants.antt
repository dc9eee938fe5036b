use Rattle.std.proofs.Common.{◌≡◌, ◌≤◌, ◌*◌, take}
use Rattle.gi_day_tables.specs.Cuts.{most_held, rest_sum}
use Rattle.gi_day_tables.proofs.cuts.rest_sum.Given as goal

abbrev pub invariant-loop-cut : goal.invariant-loop-cut
invariant-loop-cut l = record {
  sum : l.total ≡ rest_sum (take l.cut-index l.cuts);
  within : l.total ≤ l.cut-index * most_held;
}
