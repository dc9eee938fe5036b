use Rattle.std.proofs.Common.{◌≡◌, ◌++◌, ◌-◌}
use Rattle.std.specs.Option.{option_copied}
use Rattle.std.specs.List.{flat_map, range_with_len}
use Rattle.gi_schedule.specs.Cuts.{hour_cut, if_cut}
use Rattle.gi_schedule.proofs.cuts.add_key.Given as goal

abbrev pub invariant-loop-hour : goal.invariant-loop-hour
invariant-loop-hour l =
    l.lines.items ≡ l.fn.lines.items
    ++ flat_map (λ hour. if_cut (hour_cut l.id l.key (option_copied l.line) l.tables.own.now l.tables.peer.now l.tables.confirmed.now hour))
    (range_with_len l.tables.own.now.first (l.hour - l.tables.own.now.first))
