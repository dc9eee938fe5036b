-- Which fault an error of the database is, and how a fault is printed: its name, and its value after one space.
use Rattle.std.specs.Prelude.{◌≡◌, ◌⊎◌, ⊤, ℕ, List, ◌++◌, codes}
use Rattle.gi_store.specs.Owner.{owner_text}
use Rattle.std.specs.Fmt.{decimal, signed_decimal}
use Rattle.sqlite.specs.declared.error.ErrorCode.TheVariants as code
use Rattle.sqlite.specs.declared.error.Error.{Error}
use Rattle.sqlite.specs.declared.error.Error.TheVariants.{SqliteFailure}
use Rattle.gi_store.specs.declared.owner.Owner.{Owner}
use Rattle.gi_store.specs.declared.store_fault.StoreFault.{StoreFault}
use Rattle.gi_store.specs.declared.store_fault.StoreFault.TheVariants.{Version, OtherBook, Gap, Damaged, BatchSize, NotLoaded, NotNext, Lost, Head, Busy, Store, OutOfMemory}

-- want of memory is told apart
abbrev pub fault_of : Error → StoreFault
fault_of (SqliteFailure code.OutOfMemory) = OutOfMemory
fault_of _ = Store

-- a failure of the database, or want of memory
abbrev pub IsFailure : StoreFault → Type 0
IsFailure fault = (fault ≡ Store) ⊎ (fault ≡ OutOfMemory)

-- why a database is not taken as a book, where nothing is known of it
abbrev pub IsRefusal : StoreFault → Type 0
IsRefusal fault = (fault ≡ Version) ⊎ IsFailure fault

-- why a database is not taken as an owner's book, where nothing is known of it: it is another one's, or one of these
abbrev pub IsPreparingRefusal : StoreFault → Type 0
IsPreparingRefusal fault = ((theirs : Owner) × (fault ≡ OtherBook theirs)) ⊎ IsRefusal fault

-- why a file is not opened as an owner's book, where nothing is known of it: another process has it, or one of these
abbrev pub IsOpenRefusal : StoreFault → Type 0
IsOpenRefusal fault = (fault ≡ Busy) ⊎ IsPreparingRefusal fault

-- why the head beside a book is not kept, where nothing is known of it
abbrev pub IsKeepingFault : StoreFault → Type 0
IsKeepingFault (Lost n) = ⊤
IsKeepingFault Head = ⊤
IsKeepingFault Store = ⊤
IsKeepingFault OutOfMemory = ⊤
IsKeepingFault _ = ⊥

-- what is told where the database was not opened
abbrev pub opening_fault : Error → StoreFault
opening_fault (SqliteFailure code.DatabaseBusy) = Busy
opening_fault error = fault_of error

-- why a book's facts are not read, where nothing is known of it: no fault of a save, and no other owner
abbrev pub IsLoadRefusal : StoreFault → Type 0
IsLoadRefusal BatchSize = ⊥
IsLoadRefusal NotLoaded = ⊥
IsLoadRefusal (NotNext n) = ⊥
IsLoadRefusal Busy = ⊥
IsLoadRefusal (OtherBook theirs) = ⊥
IsLoadRefusal _ = ⊤

abbrev pub fault_text : StoreFault → List ℕ
fault_text Version = codes "Version"
fault_text (OtherBook theirs) = codes "OtherBook " ++ owner_text theirs
fault_text (Gap n) = codes "Gap " ++ decimal n
fault_text (Damaged n) = codes "Damaged " ++ signed_decimal n
fault_text BatchSize = codes "BatchSize"
fault_text NotLoaded = codes "NotLoaded"
fault_text (NotNext n) = codes "NotNext " ++ decimal n
fault_text (Lost n) = codes "Lost " ++ decimal n
fault_text Head = codes "Head"
fault_text Busy = codes "Busy"
fault_text Store = codes "Store"
fault_text OutOfMemory = codes "OutOfMemory"
