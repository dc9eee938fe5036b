-- What stands on the output after a fault.
use Rattle.std.specs.Prelude.{ℕ, List, Option}
use Rattle.std.specs.Io.KnownBytes.{Keeps}
use Rattle.gi_commands.specs.declared.fault.Fault.{Fault}
use Rattle.gi_commands.specs.declared.fault.Fault.TheVariants as fault

-- After a fault nothing is written, but where a writer failed.
abbrev pub LeavesNothing : Option (List ℕ) → Option (List ℕ) → Fault → Type 0
LeavesNothing old new fault.Write = Unit {0}
LeavesNothing old new _ = Keeps old new
