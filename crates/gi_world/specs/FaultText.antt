-- A refusal prints as its name, and then each value after one space.
use Rattle.std.specs.Prelude.{ℕ, List, ◌++◌, codes}
use Rattle.std.specs.Fmt.{decimal}
use Rattle.gi_day.specs.CalendarText.{fault_text as calendar_text}
use Rattle.gi_world.specs.declared.start_fault.StartFault.{StartFault}
use Rattle.gi_world.specs.declared.start_fault.StartFault.TheVariants as starts
use Rattle.gi_world.specs.declared.world_fault.WorldFault.{WorldFault}
use Rattle.gi_world.specs.declared.world_fault.WorldFault.TheVariants.{NotLocal, NoSuchPacket, KeepsTooFew, KeepsTooMany, OutOfMemory}

abbrev pub world_fault_text : WorldFault → List ℕ
world_fault_text NotLocal = codes "NotLocal"
world_fault_text NoSuchPacket = codes "NoSuchPacket"
world_fault_text (KeepsTooFew saved) = codes "KeepsTooFew " ++ decimal saved
world_fault_text (KeepsTooMany len) = codes "KeepsTooMany " ++ decimal len
world_fault_text OutOfMemory = codes "OutOfMemory"

abbrev pub start_fault_text : StartFault → List ℕ
start_fault_text (starts.Calendar fault) = codes "Calendar " ++ calendar_text fault
start_fault_text starts.OutOfMemory = codes "OutOfMemory"
