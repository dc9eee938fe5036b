-- A refusal prints as its name.
use Rattle.std.specs.Prelude.{ℕ, List, codes}
use Rattle.gi_cycles.specs.declared.meet_fault.MeetFault.{MeetFault}
use Rattle.gi_cycles.specs.declared.meet_fault.MeetFault.TheVariants.{ShapeDiffers, OutOfMemory}

abbrev pub meet_fault_text : MeetFault → List ℕ
meet_fault_text ShapeDiffers = codes "ShapeDiffers"
meet_fault_text OutOfMemory = codes "OutOfMemory"
