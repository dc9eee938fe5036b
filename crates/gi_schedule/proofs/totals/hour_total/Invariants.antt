use Rattle.std.proofs.Common.{◌≡◌, ◌≤◌, ◌*◌, take}
use Rattle.std.specs.List.{sum_by}
use Rattle.gi_pairs.specs.Quantity.{most_quantity}
use Rattle.gi_desk.specs.Queries.{confirmed}
use Rattle.gi_schedule.specs.InForce.{quantity_of}
use Rattle.gi_schedule.specs.Lines.{counted}
use Rattle.gi_schedule.proofs.totals.hour_total.Given as goal

abbrev pub invariant-loop-key : goal.invariant-loop-key
invariant-loop-key g l = record {
  counted : l.total ≡ sum_by (λ key. counted l.direction key.direction (quantity_of (confirmed g.R.Role.SIDE l.desk) l.day key l.at)) (take l.key-index l.keys);
  within : l.total ≤ l.key-index * most_quantity;
}
