use Rattle.std.proofs.Common.{◌≡◌, take}
use Rattle.std.specs.List.{flat_map}
use Rattle.gi_day_tables.specs.CutLines.{cut_if}
use Rattle.gi_day_tables.proofs.cut_lines.cut_runs.Given as goal

abbrev pub invariant-loop-run : goal.invariant-loop-run
invariant-loop-run l = l.runs.items ≡ flat_map cut_if (take l.run-index l.run-items)
