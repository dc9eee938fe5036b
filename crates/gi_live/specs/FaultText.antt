-- The names of the faults of a run.
use Rattle.std.specs.Prelude.{ℕ, List, codes}
use Rattle.gi_office.specs.FaultText.{save_fault_text, unsettled_text}
use Rattle.gi_live.specs.declared.live_fault.LiveFault.{LiveFault}
use Rattle.gi_live.specs.declared.live_fault.LiveFault.TheVariants.{Read, Write, Turn, Unsaved, SeatFull, Unsettled, OutOfMemory}

abbrev pub live_fault_text : LiveFault → List ℕ
live_fault_text Read = codes "Read"
live_fault_text Write = codes "Write"
live_fault_text (Turn fault) = save_fault_text fault
live_fault_text Unsaved = codes "Unsaved"
live_fault_text SeatFull = codes "SeatFull"
live_fault_text (Unsettled fault) = unsettled_text fault
live_fault_text OutOfMemory = codes "OutOfMemory"
