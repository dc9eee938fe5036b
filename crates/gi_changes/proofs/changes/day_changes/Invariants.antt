use Rattle.std.proofs.Common.{◌≡◌}
use Rattle.std.specs.List.{flat_map, range_with_len}
use Rattle.gi_desk.specs.Queries.{confirmed}
use Rattle.gi_schedule.specs.Keys.{keys_before}
use Rattle.gi_changes.specs.Changes.{cycle_changes}
use Rattle.gi_changes.proofs.changes.day_changes.Given as goal

abbrev pub invariant-loop-cycle : goal.invariant-loop-cycle
invariant-loop-cycle g l = record {
  keys : l.keys.keys ≡ keys_before (confirmed g.R.Role.SIDE l.desk) l.wanted.portfolio l.day l.cycle;
  lines : l.lines.items ≡ flat_map (cycle_changes (confirmed g.R.Role.SIDE l.desk) l.wanted.portfolio l.day) (range_with_len 0 l.cycle);
}
