use Rattle.std.proofs.Common.{◌≡◌, ◌++◌, take}
use Rattle.std.specs.List.{flat_map}
use Rattle.gi_schedule.specs.Cuts.{row_cuts}
use Rattle.gi_schedule.proofs.cuts.add_rows.Given as goal

abbrev pub invariant-loop-row : goal.invariant-loop-row
invariant-loop-row g l =
    l.lines.items ≡ l.fn.lines.items ++ flat_map (row_cuts g.R.Role.SIDE l.desk l.wanted l.id l.tables.own.now l.tables.peer.now l.tables.confirmed.now) (take l.row-index l.tables.own.now.rows)
