use Rattle.std.proofs.Common.{◌≡◌, ◌++◌, ◌-◌}
use Rattle.std.specs.List.{flat_map, range_with_len}
use Rattle.gi_desk.specs.Queries.{confirmed}
use Rattle.gi_changes.specs.Changes.{hour_change, if_changed}
use Rattle.gi_changes.proofs.changes.add_key.Given as goal

abbrev pub invariant-loop-hour : goal.invariant-loop-hour
invariant-loop-hour g l =
    l.lines.items ≡ l.fn.lines.items
    ++ flat_map (λ hour. if_changed (hour_change (confirmed g.R.Role.SIDE l.desk) l.id l.key l.table hour)) (range_with_len l.table.first (l.hour - l.table.first))
