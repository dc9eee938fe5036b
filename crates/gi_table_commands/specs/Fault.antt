-- What a fault of `match`, `hours` or of words means to who started the program.
use Rattle.std.specs.Prelude.{ℕ}
use Rattle.gi_table_commands.specs.declared.fault.Fault.{Fault}
use Rattle.gi_table_commands.specs.declared.fault.Fault.TheVariants.{CommandLine, OutOfMemory}

-- 2 is a wrong command line, 4 want of memory, and 1 refused input, or a reader or a writer that failed
abbrev pub status_of : Fault → ℕ
status_of CommandLine = 2
status_of OutOfMemory = 4
status_of _ = 1
