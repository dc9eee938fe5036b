-- Why a side has no desk, before and behind its book's opening.
use Rattle.std.proofs.Common.{◌≡◌, inl, inr, ℕ, List, Result, Ok, Err, IfErr, sym, subst}
use Rattle.std.specs.Prelude.{IsErrAnd}
use Rattle.gi_pairs.specs.declared.side.Side.{Side}
use Rattle.gi_store.specs.Book.{BookState}
use Rattle.gi_store.specs.declared.store_fault.StoreFault.{StoreFault}
use Rattle.gi_store.specs.declared.store_fault.StoreFault.TheVariants as store
use Rattle.gi_commands.specs.Fault.{store_fault}
use Rattle.gi_commands.specs.declared.fault.Fault.{Fault}
use Rattle.gi_service.specs.Opening.{IsSideFault}
use Rattle.gi_service.specs.Stations.{IsStationFault}

pub of_store : (side : Side) (point : List ℕ) (why : StoreFault) → IsStationFault side point (store_fault why)
of_store side point store.Version = tt
of_store side point (store.Gap n) = tt
of_store side point (store.Damaged n) = tt
of_store side point store.BatchSize = tt
of_store side point store.NotLoaded = tt
of_store side point (store.NotNext n) = tt
of_store side point store.Busy = tt
of_store side point (store.OtherBook owner) = tt
of_store side point (store.Lost n) = tt
of_store side point store.Head = tt
of_store side point store.Store = tt
of_store side point store.OutOfMemory = tt

pub not_opened : {S T : Type 0} (opens : BookState S → Type 0) (refuses : StoreFault → Type 0) (side : Side) (point : List ℕ) (r : Result T Fault) (why : StoreFault)
    → IsErrAnd r (λ e. e ≡ store_fault why) → refuses why → IfErr r (IsSideFault opens refuses side point)
not_opened opens refuses side point (Ok x) why is h = absurd is
not_opened opens refuses side point (Err e) why is h = inl (why, h, is)

pub not_loaded : {S T : Type 0} (opens : BookState S → Type 0) (refuses : StoreFault → Type 0) (side : Side) (point : List ℕ) (r : Result T Fault) (why : StoreFault) (book : BookState S)
    → IsErrAnd r (λ e. e ≡ store_fault why) → opens book → IfErr r (IsSideFault opens refuses side point)
not_loaded opens refuses side point (Ok x) why book is h = absurd is
not_loaded opens refuses side point (Err e) why book is h = inr ((book, h), subst (IsStationFault side point) (sym is) (of_store side point why))
