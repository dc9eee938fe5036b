use Rattle.std.proofs.Common.{◌-◌, ◌≤◌, ◌++◌, filter, map}
use Rattle.std.specs.List.Sorted.{IsPermutation}
use Rattle.gi_processing.specs.Processing.{ruled_row}
use Rattle.gi_processing.specs.Reduction.{is_served_before, referred}
use Rattle.gi_processing.specs.declared.rule.Rule.TheVariants.{Two}
use Rattle.gi_processing.proofs.processing.add_by_priority.Given as goal

abbrev pub invariant-loop-next : goal.invariant-loop-next
invariant-loop-next l = record {
  high : l.next ≤ 256;
  rows :
      IsPermutation (l.initial.rows.items ++ map (ruled_row Two l.contracts l.span l.portfolio l.direction (referred l.lines)) (filter (is_served_before l.next) (referred l.lines))) l.rows.items;
}

abbrev pub decreases-loop-next : goal.decreases-loop-next
decreases-loop-next l = 256 - l.next
