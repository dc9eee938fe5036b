use Rattle.std.proofs.Common.{◌≡◌, ◌≤◌, ◌*◌, take}
use Rattle.gi_picture.specs.Values.{total}
use Rattle.gi_picture.proofs.values.total.Given as goal

abbrev pub invariant-loop-value : goal.invariant-loop-value
invariant-loop-value l = record {
  sum : l.total ≡ total (take l.value-index l.values);
  within : l.total ≤ l.value-index * 18_446_744_073_709_551_615;
}
