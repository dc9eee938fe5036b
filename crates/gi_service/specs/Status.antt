-- What a fault of the program means to who started it.
use Rattle.std.specs.Prelude.{ℕ}
use Rattle.gi_commands.specs.Fault.{status_of}
use Rattle.gi_desk.specs.declared.refusal.Refusal.TheVariants as refusals
use Rattle.gi_live.specs.declared.live_fault.LiveFault.{LiveFault}
use Rattle.gi_live.specs.declared.live_fault.LiveFault.TheVariants as lives
use Rattle.gi_office.specs.declared.office_fault.OfficeFault.TheVariants as offices
use Rattle.gi_office.specs.declared.save_fault.SaveFault.{SaveFault}
use Rattle.gi_office.specs.declared.save_fault.SaveFault.TheVariants.{Marked, Office, Store}
use Rattle.gi_office.specs.declared.unreconciled.Unreconciled.TheVariants as unreconciled
use Rattle.gi_serving.specs.declared.serve_fault.ServeFault.{ServeFault}
use Rattle.gi_serving.specs.declared.serve_fault.ServeFault.TheVariants.{OutOfMemory, Turn, Unreconciled}
use Rattle.gi_store.specs.declared.store_fault.StoreFault.TheVariants as stores
use Rattle.gi_service.specs.declared.program_fault.ProgramFault.{ProgramFault}
use Rattle.gi_service.specs.declared.program_fault.ProgramFault.TheVariants.{Closed, Command, Live, Refused, Served}

-- of a turn that saves: 3 where the book failed, 4 where memory ran out, the book's too
abbrev pub turn_status : SaveFault → ℕ
turn_status (Store stores.OutOfMemory) = 4
turn_status (Store why) = 3
turn_status (Office offices.OutOfMemory) = 4
turn_status (Marked refusals.OutOfMemory) = 4
turn_status _ = 1

abbrev pub serve_status : ServeFault → ℕ
serve_status (Turn why) = turn_status why
serve_status (Unreconciled unreconciled.OutOfMemory) = 4
serve_status OutOfMemory = 4
serve_status _ = 1

-- of one running office
abbrev pub live_status : LiveFault → ℕ
live_status (lives.Turn why) = turn_status why
live_status lives.OutOfMemory = 4
live_status _ = 1

abbrev pub program_status : ProgramFault → ℕ
program_status (Command why) = status_of why
program_status (Served why) = serve_status why
program_status (Live why) = live_status why
program_status (Refused count) = 1
program_status (Closed stores.OutOfMemory) = 4
program_status (Closed why) = 3
