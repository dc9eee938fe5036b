-- What a fault means to who started the program, and what other faults come to.
use Rattle.std.specs.Prelude.{◌≡◌, ℕ}
use Rattle.gi_day.specs.declared.calendar.CalendarFault.{CalendarFault}
use Rattle.gi_day.specs.declared.calendar.CalendarFault.TheVariants as calendar
use Rattle.gi_desk.specs.declared.replay_fault.ReplayFault.{ReplayFault}
use Rattle.gi_desk.specs.declared.replay_fault.ReplayFault.TheVariants as replay
use Rattle.gi_script.specs.declared.fault.ScriptFault.{ScriptFault}
use Rattle.gi_script.specs.declared.fault.ScriptFault.TheVariants as script
use Rattle.gi_store.specs.declared.store_fault.StoreFault.{StoreFault}
use Rattle.gi_store.specs.declared.store_fault.StoreFault.TheVariants as store
use Rattle.gi_world.specs.declared.start_fault.StartFault.{StartFault}
use Rattle.gi_world.specs.declared.start_fault.StartFault.TheVariants as start
use Rattle.gi_table_commands.specs.declared.fault.Fault.{Fault as TableFault}
use Rattle.gi_table_commands.specs.declared.fault.Fault.TheVariants as table
use Rattle.gi_commands.specs.declared.fault.Fault.{Fault}
use Rattle.gi_commands.specs.declared.fault.Fault.TheVariants.{BadFact, Calendar, Code, CommandLine, Day, Lines, Message, MissingBook, OutOfMemory, Parts, Read, Script, ShapeDiffers, Store, TooLarge, Write, WrongKind}

-- 2 is a wrong command line, 3 a book that failed, is none or is missing, 4 want of memory, and 1 refused input, a reader or a writer that
-- failed, or books that differ or close no cycle
abbrev pub status_of : Fault → ℕ
status_of CommandLine = 2
status_of (Store why) = 3
status_of (MissingBook side) = 3
status_of (BadFact n) = 3
status_of OutOfMemory = 4
status_of _ = 1

-- a fault of `match`, of `hours` or of words, as one of all commands
abbrev pub table_fault : TableFault → Fault
table_fault table.CommandLine = CommandLine
table_fault table.Read = Read
table_fault table.TooLarge = TooLarge
table_fault table.Lines = Lines
table_fault (table.Message line why) = Message line why
table_fault (table.WrongKind line) = WrongKind line
table_fault (table.Parts line) = Parts line
table_fault table.ShapeDiffers = ShapeDiffers
table_fault (table.Day why) = Day why
table_fault (table.Calendar why) = Calendar why
table_fault table.Write = Write
table_fault table.OutOfMemory = OutOfMemory

-- a fault of all commands that is one of these, of which that holds
abbrev pub OfTables : (TableFault → Type 0) → Fault → Type 0
OfTables holds why = (fault : TableFault) × (why ≡ table_fault fault) × holds fault

-- want of memory is the program's own
abbrev pub calendar_fault : CalendarFault → Fault
calendar_fault calendar.OutOfMemory = OutOfMemory
calendar_fault why = Calendar why

abbrev pub start_fault : StartFault → Fault
start_fault (start.Calendar why) = calendar_fault why
start_fault start.OutOfMemory = OutOfMemory

abbrev pub script_fault : ScriptFault → Fault
script_fault script.OutOfMemory = OutOfMemory
script_fault why = Script why

abbrev pub store_fault : StoreFault → Fault
store_fault store.OutOfMemory = OutOfMemory
store_fault why = Store why

abbrev pub replay_fault : ReplayFault → Fault
replay_fault (replay.BadFact n) = BadFact n
replay_fault replay.OutOfMemory = OutOfMemory

-- what a text that is no code comes to
abbrev pub no_code : Fault
no_code = Code (record {})
