-- Why a database is not taken as a book. The failures of the database and want of memory have no cause here.
use Rattle.std.specs.Prelude.{◌≢◌, ⊤}
use Rattle.sqlite.specs.State.{State}
use Rattle.gi_store.specs.declared.store_fault.StoreFault.{StoreFault}
use Rattle.gi_store.specs.declared.store_fault.StoreFault.TheVariants.{Version, OtherBook, Store, OutOfMemory}
use Rattle.gi_pairs.specs.Code.{IsCode}
use Rattle.gi_store.specs.declared.owner.Owner.{Owner}
use Rattle.gi_store.specs.Tables.{IsFree}
use Rattle.gi_store.specs.Rows.{IsOwned, SaysNone}
use Rattle.gi_store.specs.Keeping.{IsBook, IsBookOf, IsOlderBook}

-- it is no book of version 1 or 2
abbrev pub IsVersionFault : State → StoreFault → Type 0
IsVersionFault s Version = ¬ IsBook s.now
IsVersionFault s Store = ⊤
IsVersionFault s OutOfMemory = ⊤
IsVersionFault s _ = ⊥

-- its table of the owner, if there is one, has another form, or says no owner
abbrev pub IsNameFault : State → StoreFault → Type 0
IsNameFault s Version = SaysNone s.now
IsNameFault s Store = ⊤
IsNameFault s OutOfMemory = ⊤
IsNameFault s _ = ⊥

-- the same where the owner has to be this one: another one's book is told with its owner
abbrev pub IsOwnerFault : Owner → State → StoreFault → Type 0
IsOwnerFault owner s Version = SaysNone s.now
IsOwnerFault owner s (OtherBook theirs) = IsCode theirs.point × IsOwned theirs s.now × (theirs ≢ owner)
IsOwnerFault owner s Store = ⊤
IsOwnerFault owner s OutOfMemory = ⊤
IsOwnerFault owner s _ = ⊥

-- It is no owner's book of version 1 or 2, no older one that can take its owner, and none can be made in it; or it is another owner's.
abbrev pub IsOpenFault : Owner → State → StoreFault → Type 0
IsOpenFault owner s Version = (¬ IsFree s.now.schema) × (¬ IsOlderBook s.now) × ((theirs : Owner) → IsCode theirs.point → ¬ IsBookOf theirs s.now)
IsOpenFault owner s (OtherBook theirs) = IsCode theirs.point × IsBookOf theirs s.now × (theirs ≢ owner)
IsOpenFault owner s Store = ⊤
IsOpenFault owner s OutOfMemory = ⊤
IsOpenFault owner s _ = ⊥
