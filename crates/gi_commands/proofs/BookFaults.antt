-- Why an open book has no report.
use Rattle.std.proofs.Common.{◌≡◌, inl, ℕ, List, Result, Ok, Err, IfErr, sym, subst}
use Rattle.std.specs.Prelude.{IsErrAnd}
use Rattle.gi_pairs.specs.declared.side.Side.{Side}
use Rattle.gi_facts.specs.declared.fact.Fact.{Fact}
use Rattle.sqlite.specs.State.{State}
use Rattle.gi_store.specs.Book.{IsLoadCaused, IsLoadFault}
use Rattle.gi_commands.specs.Owned.{anything}
use Rattle.gi_store.specs.declared.store_fault.StoreFault.{StoreFault}
use Rattle.gi_store.specs.declared.store_fault.StoreFault.TheVariants as store
use Rattle.gi_commands.specs.Fault.{store_fault}
use Rattle.gi_commands.specs.Reporting.{IsBookFault, IsFactsFault, IsRowsFault}
use Rattle.gi_commands.specs.declared.fault.Fault.{Fault}
use Rattle.gi_commands.specs.declared.fault.Fault.TheVariants as fault

pub rows_fault : (side : Side) (point : List ℕ) (old new : State) (why : StoreFault) → IsLoadFault old why → IsLoadCaused old new why → IsRowsFault side point old new (store_fault why)
rows_fault side point old new store.Version h k = (h, k)
rows_fault side point old new (store.Gap n) h k = (h, k)
rows_fault side point old new (store.Damaged n) h k = (h, k)
rows_fault side point old new store.BatchSize h k = (h, k)
rows_fault side point old new store.NotLoaded h k = (h, k)
rows_fault side point old new (store.NotNext n) h k = (h, k)
rows_fault side point old new store.Busy h k = (h, k)
rows_fault side point old new (store.OtherBook owner) h k = (h, k)
rows_fault side point old new (store.Lost n) h k = (h, k)
rows_fault side point old new store.Head h k = (h, k)
rows_fault side point old new store.Store h k = (h, k)
rows_fault side point old new store.OutOfMemory h k = tt

pub load_fault : (side : Side) (point : List ℕ) (why : StoreFault) → IsBookFault anything side point (store_fault why)
load_fault side point store.Version = tt
load_fault side point (store.Gap n) = tt
load_fault side point (store.Damaged n) = tt
load_fault side point store.BatchSize = tt
load_fault side point store.NotLoaded = tt
load_fault side point (store.NotNext n) = tt
load_fault side point store.Busy = tt
load_fault side point (store.OtherBook owner) = tt
load_fault side point (store.Lost n) = tt
load_fault side point store.Head = tt
load_fault side point store.Store = tt
load_fault side point store.OutOfMemory = inl tt

pub facts_fault : (side : Side) (point : List ℕ) (facts : List Fact) (why : Fault) → IsFactsFault side point facts why → IsBookFault anything side point why
facts_fault side point facts (fault.BadFact n) h = (facts, tt, h)
facts_fault side point facts fault.OutOfMemory h = inl tt
facts_fault side point facts _ h = absurd h

-- a fault of the store, as the program's own
pub converted : {T : Type 0} (r : Result T Fault) (why : StoreFault) (P : Fault → Type 0) → IsErrAnd r (λ e. e ≡ store_fault why) → P (store_fault why) → IfErr r P
converted (Ok x) why P h p = absurd h
converted (Err e) why P h p = subst P (sym h) p
