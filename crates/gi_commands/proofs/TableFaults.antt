-- The faults of `match`, of `hours` and of words among those of all commands.
use Rattle.std.proofs.Common.{◌≡◌, refl}
use Rattle.gi_table_commands.specs.Fault.{status_of as table_status_of}
use Rattle.gi_table_commands.specs.declared.fault.Fault.{Fault as TableFault}
use Rattle.gi_table_commands.specs.declared.fault.Fault.TheVariants as table
use Rattle.gi_commands.specs.Fault.{status_of, table_fault}

pub same_status : (fault : TableFault) → status_of (table_fault fault) ≡ table_status_of fault
same_status table.CommandLine = refl
same_status table.Read = refl
same_status table.TooLarge = refl
same_status table.Lines = refl
same_status (table.Message line why) = refl
same_status (table.WrongKind line) = refl
same_status (table.Parts line) = refl
same_status table.ShapeDiffers = refl
same_status (table.Day why) = refl
same_status (table.Calendar why) = refl
same_status table.Write = refl
same_status table.OutOfMemory = refl
