-- What a program of the commands `match` and `hours` does of all that can be asked, and its faults.
use Rattle.std.specs.Prelude.{◌≡◌, ◌⊎◌, ℕ, List, Option, IfSome}
use Rattle.std.specs.Io.KnownBytes.{Keeps}
use Rattle.gi_command_line.specs.Asked.{Wanted, at_once, hours, match_tables}
use Rattle.gi_table_commands.specs.Hours.{IsFirstHoursFault, TellsHours}
use Rattle.gi_table_commands.specs.Match.{Answers, IsFirstFault}
use Rattle.gi_table_commands.specs.declared.fault.Fault.{Fault}
use Rattle.gi_table_commands.specs.declared.fault.Fault.TheVariants as fault

-- what is asked for is what the output gains; of what the reader has left, where it tells that. Nothing else is done
abbrev pub DoesTables : Wanted → Option (List ℕ) → Option (List ℕ) → Option (List ℕ) → Type 0
DoesTables (at_once match_tables) remaining old new = IfSome remaining (λ input. Answers input old new)
DoesTables (at_once (hours day)) remaining old new = TellsHours day old new
DoesTables _ remaining old new = ⊥

-- the first fault; all else that can be asked is a wrong command line
abbrev pub IsTablesFault : Wanted → Option (List ℕ) → Fault → Type 0
IsTablesFault (at_once match_tables) remaining why = IfSome remaining (λ input. IsFirstFault input why)
IsTablesFault (at_once (hours day)) remaining why = IsFirstHoursFault day why
IsTablesFault _ remaining why = (why ≡ fault.CommandLine) ⊎ (why ≡ fault.OutOfMemory)

-- `match` alone reads
abbrev pub MayReadTables : Wanted → Option (List ℕ) → Option (List ℕ) → Type 0
MayReadTables (at_once match_tables) old new = Unit {0}
MayReadTables _ old new = Keeps old new
