use Rattle.std.proofs.Common.{◌≡◌, string_bytes, take}
use Rattle.gi_day_tables.specs.Cycles.{cycle_rows}
use Rattle.gi_day_tables.proofs.cycles.cycle_rows.Given as goal

abbrev pub invariant-loop-mark : goal.invariant-loop-mark
invariant-loop-mark l = string_bytes l.text ≡ cycle_rows (take l.mark-index l.marks) l.runs
