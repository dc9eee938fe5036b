use Rattle.std.proofs.Common.{◌≡◌, string_bytes, take}
use Rattle.gi_day_tables.specs.CutLines.{more_lines}
use Rattle.gi_day_tables.proofs.cut_lines.more_lines.Given as goal

abbrev pub invariant-loop-run : goal.invariant-loop-run
invariant-loop-run l = string_bytes l.text ≡ more_lines l.count (take l.run-index l.runs)
