-- A fault prints as its name, and then each value, or the fault in it, after one space.
use Rattle.std.specs.Prelude.{ℕ, List, ◌++◌, codes}
use Rattle.std.specs.Fmt.{decimal}
use Rattle.gi_desk.specs.FaultText.{refusal_text}
use Rattle.gi_store.specs.FaultText.{fault_text}
use Rattle.gi_office.specs.declared.life_fault.LifeFault.{LifeFault}
use Rattle.gi_office.specs.declared.life_fault.LifeFault.TheVariants as joining
use Rattle.gi_office.specs.declared.office_fault.OfficeFault.{OfficeFault}
use Rattle.gi_office.specs.declared.office_fault.OfficeFault.TheVariants as offices
use Rattle.gi_office.specs.declared.open_fault.OpenFault.{OpenFault}
use Rattle.gi_office.specs.declared.open_fault.OpenFault.TheVariants as openings
use Rattle.gi_office.specs.declared.save_fault.SaveFault.{SaveFault}
use Rattle.gi_office.specs.declared.save_fault.SaveFault.TheVariants as savings
use Rattle.gi_office.specs.declared.unreconciled.Unreconciled.{Unreconciled}
use Rattle.gi_office.specs.declared.unreconciled.Unreconciled.TheVariants as reconciling
use Rattle.gi_office.specs.declared.unsettled.Unsettled.{Unsettled}
use Rattle.gi_pairs.specs.Side.{side_text}

abbrev pub office_fault_text : OfficeFault → List ℕ
office_fault_text offices.SeatFull = codes "SeatFull"
office_fault_text offices.OutOfMemory = codes "OutOfMemory"

abbrev pub open_fault_text : OpenFault → List ℕ
open_fault_text openings.SeatCount = codes "SeatCount"
open_fault_text openings.OutOfMemory = codes "OutOfMemory"

abbrev pub unsettled_text : Unsettled → List ℕ
unsettled_text fault = codes "Unsettled " ++ decimal fault.seat ++ codes " " ++ decimal fault.place

abbrev pub save_fault_text : SaveFault → List ℕ
save_fault_text savings.Halted = codes "Halted"
save_fault_text (savings.Store fault) = codes "Store " ++ fault_text fault
save_fault_text (savings.Office fault) = codes "Office " ++ office_fault_text fault
save_fault_text (savings.Marked refusal) = codes "Marked " ++ refusal_text refusal

abbrev pub unreconciled_text : Unreconciled → List ℕ
unreconciled_text reconciling.NotAPair = codes "NotAPair"
unreconciled_text (reconciling.Stranger side place) = codes "Stranger " ++ side_text side ++ codes " " ++ decimal place
unreconciled_text reconciling.OutOfMemory = codes "OutOfMemory"

abbrev pub life_fault_text : LifeFault → List ℕ
life_fault_text (joining.LifeBroken n) = codes "LifeBroken " ++ decimal n
life_fault_text joining.OutOfMemory = codes "OutOfMemory"
