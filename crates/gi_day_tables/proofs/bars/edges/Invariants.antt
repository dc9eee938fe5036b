use Rattle.std.proofs.Common.{◌≡◌, string_bytes, take}
use Rattle.gi_day_tables.specs.Bars.{edges}
use Rattle.gi_day_tables.proofs.bars.edges.Given as goal

abbrev pub invariant-loop-run : goal.invariant-loop-run
invariant-loop-run l = string_bytes l.text ≡ edges l.most (take l.run-index l.runs)
