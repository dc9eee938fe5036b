use Rattle.std.proofs.Common.{◌≡◌, ◌≤◌, ◌+◌, length, take}
use Rattle.std.specs.Prelude.{None}
use Rattle.std.specs.List.{flat_map}
use Rattle.gi_schedule.specs.Keys.{row_keys, with_each}
use Rattle.gi_page.proofs.keys.add_rows.Given as goal

abbrev pub invariant-loop-row : goal.invariant-loop-row
invariant-loop-row l = record {
  added : l.keys.keys ≡ with_each l.fn.keys.keys (flat_map (row_keys None) (take l.row-index l.table.rows));
  few : length l.keys.keys ≤ length l.fn.keys.keys + l.row-index;
}
