-- What is told of a copy of a book is told of the prefix.
use Rattle.gi_store.specs.declared.store_fault.StoreFault.{StoreFault}
use Rattle.gi_store.specs.declared.store_fault.StoreFault.TheVariants as store
use Rattle.gi_commands.specs.Fault.{store_fault}
use Rattle.gi_service.specs.Standing.{IsPrefixFault}

pub of_store : (why : StoreFault) → IsPrefixFault (store_fault why)
of_store store.Version = tt
of_store (store.OtherBook owner) = tt
of_store (store.Gap n) = tt
of_store (store.Damaged n) = tt
of_store store.BatchSize = tt
of_store store.NotLoaded = tt
of_store (store.NotNext n) = tt
of_store (store.Lost n) = tt
of_store store.Head = tt
of_store store.Busy = tt
of_store store.Store = tt
of_store store.OutOfMemory = tt
