-- Why two books have no audit.
use Rattle.std.proofs.Common.{inl, inr, ℕ, List, Ok, Err}
use Rattle.gi_facts.specs.declared.fact.Fact.{Fact}
use Rattle.gi_store.specs.declared.store_fault.StoreFault.{StoreFault}
use Rattle.gi_store.specs.declared.store_fault.StoreFault.TheVariants as store
use Rattle.gi_commands.specs.Auditing.{IsNoAudit, IsNoFactsAudit}
use Rattle.gi_commands.specs.Fault.{store_fault}
use Rattle.gi_commands.specs.Owned.{FactsReading}
use Rattle.gi_commands.specs.declared.fault.Fault.{Fault}
use Rattle.gi_commands.specs.declared.fault.Fault.TheVariants as fault

-- both have facts, which have none
pub no_facts : (ours theirs : FactsReading) (point : List ℕ) (initiating matching : List Fact) (why : Fault) → ours (Ok initiating) → theirs (Ok matching)
    → IsNoFactsAudit point initiating matching why → IsNoAudit ours theirs point why
no_facts ours theirs point initiating matching (fault.BadFact n) our their h = (initiating, matching, our, their, h)
no_facts ours theirs point initiating matching fault.OutOfMemory our their h = inr (initiating, our, inr (matching, their))
no_facts ours theirs point initiating matching _ our their h = absurd h

-- the initiating operator's has facts, and the matching one's is not read
pub no_book : (ours theirs : FactsReading) (point : List ℕ) (initiating : List Fact) (why : StoreFault) → ours (Ok initiating) → theirs (Err why)
    → IsNoAudit ours theirs point (store_fault why)
no_book ours theirs point initiating store.OutOfMemory our their = inr (initiating, our, inl their)
no_book ours theirs point initiating store.Version our their = inr (initiating, our, their)
no_book ours theirs point initiating (store.OtherBook owner) our their = inr (initiating, our, their)
no_book ours theirs point initiating (store.Gap n) our their = inr (initiating, our, their)
no_book ours theirs point initiating (store.Damaged n) our their = inr (initiating, our, their)
no_book ours theirs point initiating store.BatchSize our their = inr (initiating, our, their)
no_book ours theirs point initiating store.NotLoaded our their = inr (initiating, our, their)
no_book ours theirs point initiating (store.NotNext n) our their = inr (initiating, our, their)
no_book ours theirs point initiating (store.Lost n) our their = inr (initiating, our, their)
no_book ours theirs point initiating store.Head our their = inr (initiating, our, their)
no_book ours theirs point initiating store.Busy our their = inr (initiating, our, their)
no_book ours theirs point initiating store.Store our their = inr (initiating, our, their)
