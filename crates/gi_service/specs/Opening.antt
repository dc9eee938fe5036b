-- What the books of both sides were opened as, and the first fault of that. `opens` and `refuses` say what may come of opening one.
use Rattle.std.specs.Prelude.{◌≡◌, ◌⊎◌, ℕ, List}
use Rattle.gi_pairs.specs.declared.side.Side.{Side}
use Rattle.gi_pairs.specs.declared.side.Side.TheVariants.{I, M}
use Rattle.gi_store.specs.Book.{BookState}
use Rattle.gi_store.specs.declared.store_fault.StoreFault.{StoreFault}
use Rattle.gi_commands.specs.Fault.{store_fault}
use Rattle.gi_commands.specs.declared.fault.Fault.{Fault}
use Rattle.gi_service.specs.Pasts.{IsPastsFault}
use Rattle.gi_service.specs.Stations.{IsStationFault}

-- a book was opened so
abbrev pub IsOpened : {S : Type 0} → (BookState S → Type 0) → Type 0
IsOpened {S} opens = (book : BookState S) × opens book

-- none was, and that is told
abbrev pub IsUnopened : (StoreFault → Type 0) → Fault → Type 0
IsUnopened refuses why = (fault : StoreFault) × refuses fault × (why ≡ store_fault fault)

-- why a side has no desk: its book was not opened; or it was, and its facts were not read or make none
abbrev pub IsSideFault : {S : Type 0} → (BookState S → Type 0) → (StoreFault → Type 0) → Side → List ℕ → Fault → Type 0
IsSideFault opens refuses side point why = IsUnopened refuses why ⊎ (IsOpened opens × IsStationFault side point why)

-- the first fault of both sides: that of the initiating one; where its book was opened, that of the matching one; where both were, what both
-- have is of two pasts
abbrev pub IsFirstSideFault : {S : Type 0} → (Side → BookState S → Type 0) → (Side → StoreFault → Type 0) → List ℕ → Fault → Type 0
IsFirstSideFault opens refuses point why =
    IsSideFault (opens I) (refuses I) I point why ⊎ (IsOpened (opens I) × (IsSideFault (opens M) (refuses M) M point why ⊎ (IsOpened (opens M) × IsPastsFault point why)))
