-- A fault prints as the name of the fault in it.
use Rattle.std.specs.Prelude.{ℕ, List, codes}
use Rattle.gi_office.specs.FaultText.{save_fault_text, unreconciled_text, unsettled_text}
use Rattle.gi_serving.specs.declared.serve_fault.ServeFault.{ServeFault}
use Rattle.gi_serving.specs.declared.serve_fault.ServeFault.TheVariants.{Turn, Unsettled, Unreconciled, Write, OutOfMemory}

abbrev pub serve_fault_text : ServeFault → List ℕ
serve_fault_text (Turn fault) = save_fault_text fault
serve_fault_text (Unsettled fault) = unsettled_text fault
serve_fault_text (Unreconciled fault) = unreconciled_text fault
serve_fault_text Write = codes "Write"
serve_fault_text OutOfMemory = codes "OutOfMemory"
