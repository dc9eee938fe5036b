-- What comes of reading one of two books that are kept in memory: its facts, unless memory runs out; under any other name there is none.
use Rattle.std.specs.Prelude.{◌≡◌, ◌⊎◌, ℕ, List, None, Result, Ok, Err, codes}
use Rattle.gi_facts.specs.declared.fact.Fact.{Fact}
use Rattle.gi_store.specs.Copies.{BookCopyState}
use Rattle.gi_store.specs.declared.store_fault.StoreFault.{StoreFault}
use Rattle.gi_store.specs.declared.store_fault.StoreFault.TheVariants.{Store, OutOfMemory}

abbrev pub gives_kept : List Fact → List Fact → List ℕ → Result BookCopyState StoreFault → Type 0
gives_kept initiating matching name (Ok copy) =
    (copy.owner ≡ None) × (copy.log ≡ 0) × (((name ≡ codes "I") × (copy.facts ≡ initiating)) ⊎ ((name ≡ codes "M") × (copy.facts ≡ matching)))
gives_kept initiating matching name (Err Store) = (¬ (name ≡ codes "I")) × (¬ (name ≡ codes "M"))
gives_kept initiating matching name (Err OutOfMemory) = (name ≡ codes "I") ⊎ (name ≡ codes "M")
gives_kept initiating matching name (Err _) = ⊥
