-- Why a side of two running offices has no desk.
use Rattle.std.specs.Prelude.{◌≡◌, ℕ, List, Some}
use Rattle.gi_facts.specs.declared.fact.Fact.{Fact}
use Rattle.gi_desk.specs.Machine.{bad_fact}
use Rattle.gi_pairs.specs.declared.side.Side.{Side}
use Rattle.gi_store.specs.declared.store_fault.StoreFault.TheVariants as store
use Rattle.gi_commands.specs.declared.fault.Fault.{Fault}
use Rattle.gi_commands.specs.declared.fault.Fault.TheVariants as fault

-- some facts make none, or the store failed or memory ran out
abbrev pub IsStationFault : Side → List ℕ → Fault → Type 0
IsStationFault side point (fault.BadFact n) = (facts : List Fact) × (bad_fact side point facts ≡ Some n)
IsStationFault side point (fault.Store store.OutOfMemory) = ⊥
IsStationFault side point (fault.Store why) = Unit {0}
IsStationFault side point fault.OutOfMemory = Unit {0}
IsStationFault side point _ = ⊥
