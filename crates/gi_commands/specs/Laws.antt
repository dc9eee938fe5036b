-- What holds of all faults.
use Rattle.std.specs.Prelude.{◌≡◌}
use Rattle.gi_table_commands.specs.Fault.{status_of as table_status_of}
use Rattle.gi_table_commands.specs.declared.fault.Fault.{Fault as TableFault}
use Rattle.gi_commands.specs.Fault.{status_of, table_fault}

-- a fault of `match`, of `hours` or of words has one exit status, whichever program tells it
abbrev pub HasOneStatus : Type 0
HasOneStatus = (fault : TableFault) → status_of (table_fault fault) ≡ table_status_of fault
