-- A refusal prints as its name.
use Rattle.std.specs.Prelude.{ℕ, List, codes}
use Rattle.gi_carrier.specs.declared.plan_fault.PlanFault.{PlanFault}
use Rattle.gi_carrier.specs.declared.plan_fault.PlanFault.TheVariants.{PlanLength}
use Rattle.gi_carrier.specs.declared.send_fault.SendFault.{SendFault}
use Rattle.gi_carrier.specs.declared.send_fault.SendFault.TheVariants.{Full, OutOfMemory}

abbrev pub plan_fault_text : PlanFault → List ℕ
plan_fault_text PlanLength = codes "PlanLength"

abbrev pub send_fault_text : SendFault → List ℕ
send_fault_text Full = codes "Full"
send_fault_text OutOfMemory = codes "OutOfMemory"
