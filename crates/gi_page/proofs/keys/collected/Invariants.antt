use Rattle.std.proofs.Common.{◌≡◌, ◌≤◌, ◌*◌, [], length}
use Rattle.std.specs.List.{flat_map, range_with_len}
use Rattle.gi_pairs.specs.Limits.{most_rows}
use Rattle.gi_schedule.specs.InForce.{cycle_of}
use Rattle.gi_schedule.specs.Keys.{with_each}
use Rattle.gi_page.specs.Keys.{cycle_keys}
use Rattle.gi_page.proofs.keys.collected.Given as goal

abbrev pub invariant-loop-cycle : goal.invariant-loop-cycle
invariant-loop-cycle g l = record {
  added : l.keys.keys ≡ with_each [] (flat_map (λ cycle. cycle_keys g.R.Role.SIDE l.desk (cycle_of l.day cycle)) (range_with_len 0 l.cycle));
  few : length l.keys.keys ≤ l.cycle * (2 * most_rows);
}
