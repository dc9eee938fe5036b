use Rattle.std.proofs.Common.{◌≡◌, ◌*◌, ◌≤◌, take}
use Rattle.gi_pairs.specs.Quantity.{most_quantity}
use Rattle.gi_processing.specs.Reduction.{referred, total}
use Rattle.gi_processing.proofs.reduction.total_of.Given as goal

abbrev pub invariant-loop-line : goal.invariant-loop-line
invariant-loop-line l = record {
  value : l.sum ≡ total l.index (referred (take l.line-index l.lines));
  bound : l.sum ≤ l.line-index * most_quantity;
}
