use Rattle.std.proofs.Common.{◌≡◌, ◌≤◌, ◌-◌, ◌*◌, take}
use Rattle.std.specs.List.{sum_by}
use Rattle.gi_pairs.specs.Quantity.{most_quantity}
use Rattle.gi_explanations.specs.Sums.{share_of}
use Rattle.gi_explanations.proofs.lines.sum.Given as goal

-- what the lines so far add
abbrev pub invariant-loop-line : goal.invariant-loop-line
invariant-loop-line l = record {
  value : l.sum ≡ sum_by (share_of l.span l.group l.code l.direction (l.hour - 1)) (take l.line-index l.lines);
  within : l.sum ≤ l.line-index * most_quantity;
}
