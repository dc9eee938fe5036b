use Rattle.std.proofs.Common.{◌≡◌, ◌≤◌, ◌*◌, [], length}
use Rattle.std.specs.List.{flat_map, range_with_len}
use Rattle.gi_pairs.specs.Limits.{most_rows}
use Rattle.gi_desk.specs.Queries.{confirmed}
use Rattle.gi_schedule.specs.InForce.{cycle_of}
use Rattle.gi_schedule.specs.Keys.{keys_if, with_each}
use Rattle.gi_schedule.proofs.keys.collected.Given as goal

abbrev pub invariant-loop-cycle : goal.invariant-loop-cycle
invariant-loop-cycle g l = record {
  added : l.keys.keys ≡ with_each [] (flat_map (λ cycle. keys_if l.wanted.portfolio (confirmed g.R.Role.SIDE l.desk (cycle_of l.day cycle))) (range_with_len 0 l.cycle));
  few : length l.keys.keys ≤ l.cycle * most_rows;
}
