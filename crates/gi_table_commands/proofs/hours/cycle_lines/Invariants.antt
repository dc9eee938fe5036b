use Rattle.std.specs.Prelude.{string_bytes}
use Rattle.gi_table_commands.specs.Hours.{AreCycleLines}
use Rattle.gi_table_commands.proofs.hours.cycle_lines.Given as goal

abbrev pub invariant-loop-cycle : goal.invariant-loop-cycle
invariant-loop-cycle l = AreCycleLines l.frame l.cycle (string_bytes l.text)
