use Rattle.std.proofs.Common.{◌≡◌, is_some, take}
use Rattle.std.specs.List.{list_any}
use Rattle.gi_day_tables.proofs.columns.has_some.Given as goal

abbrev pub invariant-loop-value : goal.invariant-loop-value
invariant-loop-value l = l.any ≡ list_any is_some (take l.value-index l.values)
