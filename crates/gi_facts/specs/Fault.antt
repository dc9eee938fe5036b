-- Why bytes are read as no fact.
use Rattle.std.specs.Prelude.{ℕ, List, codes}
use Rattle.gi_messages.specs.declared.fault.FieldFault.{FieldFault}
use Rattle.gi_messages.specs.declared.fault.FieldFault.TheVariants as field
use Rattle.gi_facts.specs.declared.fact_fault.FactFault.{FactFault}
use Rattle.gi_facts.specs.declared.fact_fault.FactFault.TheVariants.{NotAFact, OutOfMemory}

-- the fault of a fact whose field was not read
abbrev pub fault_of : FieldFault → FactFault
fault_of (field.Wrong key) = NotAFact
fault_of field.OutOfMemory = OutOfMemory

-- how a fault is printed
abbrev pub fault_text : FactFault → List ℕ
fault_text NotAFact = codes "NotAFact"
fault_text OutOfMemory = codes "OutOfMemory"
