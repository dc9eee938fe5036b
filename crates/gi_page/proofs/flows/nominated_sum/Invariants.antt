use Rattle.std.proofs.Common.{◌≡◌, ◌≤◌, ◌*◌, take}
use Rattle.gi_pairs.specs.Quantity.{most_quantity}
use Rattle.gi_page.specs.Flows.{sum_of}
use Rattle.gi_page.proofs.flows.nominated_sum.Given as goal

abbrev pub invariant-loop-key : goal.invariant-loop-key
invariant-loop-key g l = record {
  counted : l.total ≡ sum_of (λ amounts. amounts.nominated) g.R.Role.SIDE l.desk l.day l.direction l.hour.at (take l.key-index l.keys);
  within : l.total ≤ l.key-index * most_quantity;
}
