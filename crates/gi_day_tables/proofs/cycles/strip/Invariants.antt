use Rattle.std.proofs.Common.{◌≡◌, string_bytes, take}
use Rattle.gi_day_tables.specs.Cycles.{strip}
use Rattle.gi_day_tables.proofs.cycles.strip.Given as goal

abbrev pub invariant-loop-mark : goal.invariant-loop-mark
invariant-loop-mark l = string_bytes l.text ≡ strip (take l.mark-index l.marks)
