use Rattle.std.proofs.Common.{◌≡◌, string_bytes, take}
use Rattle.gi_day_tables.specs.Cycles.{spans}
use Rattle.gi_day_tables.proofs.cycles.spans.Given as goal

abbrev pub invariant-loop-run : goal.invariant-loop-run
invariant-loop-run l = string_bytes l.text ≡ spans l.cycle (take l.run-index l.runs)
