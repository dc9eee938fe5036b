-- What follows of a book for its owner.
use Rattle.std.proofs.Common.{◌≡◌, ◌≢◌, ◌⊎◌, inl, inr, ℕ, List, [], ◌∷◌, ◌++◌, Some, Ok, Err, Result, OnOk, IfErr, IsErrAnd, codes, refl, sym, ap, subst, ◌∙◌, false, IsTrue, arith}
use Rattle.sqlite_value.specs.Order.{Row}
use Rattle.sqlite.specs.Schema.{Schema}
use Rattle.sqlite.specs.Table.{Table}
use Rattle.sqlite.specs.Effect.{Database}
use Rattle.sqlite.specs.State.{State}
use Rattle.sqlite_catalog.specs.Change.{is_used}
use Rattle.sqlite_catalog.proofs.StepLemmas.{no_table}
use Rattle.gi_pairs.specs.Code.{IsCode}
use Rattle.gi_pairs.specs.Side.{side_text}
use Rattle.gi_pairs.specs.declared.side.Side.{Side}
use Rattle.gi_pairs.specs.declared.side.Side.TheVariants.{I, M}
use Rattle.gi_store.specs.declared.owner.Owner.{Owner}
use Rattle.gi_store.specs.declared.store_fault.StoreFault.{StoreFault}
use Rattle.gi_store.specs.declared.store_fault.StoreFault.TheVariants.{Version, OtherBook, Store, OutOfMemory}
use Rattle.gi_store.specs.Owner.{owner_text}
use Rattle.gi_store.specs.FaultText.{IsFailure}
use Rattle.gi_store.specs.Tables.{IsFree, TakesOwner, table_at}
use Rattle.gi_store.specs.Rows.{IsOwned, row_of}
use Rattle.gi_store.specs.Keeping.{IsBook, IsBookOf, IsReady, IsVersion, KeepsOrMakes, KeepsOrUpgrades, Upgrades}
use Rattle.gi_store.specs.Version.{version_number}
use Rattle.gi_store.specs.declared.version.BookVersion.{BookVersion}
use Rattle.gi_store.specs.declared.version.BookVersion.TheVariants.{One, Two}
use Rattle.gi_store.specs.Opening.{IsOpenFault, IsOwnerFault}
use Rattle.gi_store.proofs.Listed.{is_at}

-- ---- one owner

first_of : List ℕ → ℕ
first_of [] = 0
first_of (x ∷ xs) = x

rest_of : List ℕ → List ℕ
rest_of [] = []
rest_of (x ∷ xs) = xs

-- the texts of two sides and points are told apart by their first letter, and by what comes after the space
same_parts : (s t : Side) (p q : List ℕ) → side_text s ++ codes " " ++ p ≡ side_text t ++ codes " " ++ q → (s ≡ t) × (p ≡ q)
unfolding rest_of first_of
same_parts I I p q h = (refl, ap (λ l. rest_of (rest_of l)) h)
same_parts M M p q h = (refl, ap (λ l. rest_of (rest_of l)) h)
same_parts I M p q h = absurd (let is : ◌≡◌ {A = ℕ} 73 77 = ap first_of h in omega (arith, is))
same_parts M I p q h = absurd (let is : ◌≡◌ {A = ℕ} 77 73 = ap first_of h in omega (arith, is))

pub same_text : (a b : Owner) → owner_text a ≡ owner_text b → a ≡ b
same_text a b h = let same = same_parts a.side b.side a.point b.point h in λ i. record { side = same.0 i; point = same.1 i }

text_in : (a b : List ℕ) → ◌≡◌ {A = List Row} (row_of 1 a ∷ []) (row_of 1 b ∷ []) → a ≡ b
text_in a b h = cc

pub one_owner : (db : Database) (a b : Owner) → IsOwned a db → IsOwned b db → a ≡ b
one_owner db a b one two = same_text a b (text_in (owner_text a) (owner_text b) (sym one.row ∙ two.row))

-- a name that a table has is used
listed_used : (schema : Schema) (name : List ℕ) (table : Table) → table_at schema name ≡ Some table → is_used schema name ≡ false → ⊥
listed_used schema name table at free =
    let it = is_at schema name table at in
    let none = no_table schema name free in
    let no = sym none ∙ it.named in
    cc

-- ---- its version

pub book_of : (version : BookVersion) (db : Database) → IsVersion (version_number version) db → IsBook db
book_of One db is = record { tables = is.tables; version = inl is.version }
book_of Two db is = record { tables = is.tables; version = inr is.version }

pub second : (owner : Owner) (version : BookVersion) (db : Database) → ¬ (IsVersion 1 db × IsOwned owner db) → IsVersion (version_number version) db → (version ≡ Two) ⊎ ¬ IsOwned owner db
second owner One db other is = inr (λ owned. other (is, owned))
second owner Two db other is = inl refl

-- ---- once the version was read

pub keeps_later : (owner : Owner) (old mid new : State) → mid.now ≡ old.now → KeepsOrUpgrades owner mid new → KeepsOrMakes owner old new
keeps_later owner old mid new same (inl still) = inl (still ∙ same)
keeps_later owner old mid new same (inr upgrades) = inr (inr (subst (λ (d : Database). Upgrades owner d new.now) same upgrades))

pub owner_refused : (owner : Owner) (old mid : State) (fault : StoreFault) → ¬ IsFree old.now.schema → mid.now ≡ old.now → IsBook mid.now → (TakesOwner mid.now.schema → ¬ (fault ≡ Version)) → IsOwnerFault owner mid fault → IsOpenFault owner old fault
owner_refused owner old mid Version free same book takes h = (
  free,
  (λ older. takes (subst (λ (d : Database). TakesOwner d.schema) (sym same) older.takes) refl),
  λ theirs code is. h theirs code (subst (IsOwned theirs) (sym same) is.owned),
)
owner_refused owner old mid (OtherBook theirs) free same book takes h = (h.0, record { book = subst IsBook same book; owned = subst (IsOwned theirs) same h.1 }, h.2)
owner_refused owner old mid Store free same book takes h = tt
owner_refused owner old mid OutOfMemory free same book takes h = tt
owner_refused owner old mid _ free same book takes h = absurd h

-- ---- another owner's book is told so

pub told : (owner theirs : Owner) (old new : State) (r : Result (Unit {0}) StoreFault) → OnOk r (IsReady owner new) → (IsTrue new.is_open → KeepsOrMakes owner old new) → IfErr r (IsOpenFault owner old)
    → IsCode theirs.point → IsBookOf theirs old.now → theirs ≢ owner → IsErrAnd r (λ fault. (fault ≡ OtherBook theirs) ⊎ IsFailure fault)
told owner theirs old new (Ok _) ready keeps refused code is other = absurd (elim (keeps ready.is_open) [
  | inl same ↦ other (one_owner old.now theirs owner is.owned (subst (IsOwned owner) same ready.owned))
  | inr made ↦ elim made [
    | inl new_one ↦ listed_used old.now.schema (codes "book") _ is.book.tables.book new_one.free.book
    | inr upgrades ↦ elim upgrades [
      | inl added ↦ listed_used old.now.schema (codes "owner") _ is.owned.table added.older.takes.owner
      | inr raises ↦ other (one_owner old.now theirs owner is.owned raises.owned)
    ]
  ]
])
told owner theirs old new (Err Version) ready keeps refused code is other = absurd (refused.2 theirs code is)
told owner theirs old new (Err (OtherBook o)) ready keeps refused code is other = inl (ap OtherBook (one_owner old.now o theirs refused.1.owned is.owned))
told owner theirs old new (Err Store) ready keeps refused code is other = inr (inl refl)
told owner theirs old new (Err OutOfMemory) ready keeps refused code is other = inr (inr refl)
told owner theirs old new (Err _) ready keeps refused code is other = absurd refused

pub told_later : (owner theirs : Owner) (old mid new : State) (r : Result (Unit {0}) StoreFault) → ¬ IsFree old.now.schema → mid.now ≡ old.now → IsBook mid.now
    → OnOk r (IsReady owner new) → (IsTrue new.is_open → KeepsOrUpgrades owner mid new) → (TakesOwner mid.now.schema → IfErr r (λ fault. ¬ (fault ≡ Version))) → IfErr r (IsOwnerFault owner mid)
    → IsCode theirs.point → IsBookOf theirs old.now → theirs ≢ owner → IsErrAnd r (λ fault. (fault ≡ OtherBook theirs) ⊎ IsFailure fault)
told_later owner theirs old mid new (Ok done) free same book ready keeps takes refused code is other =
    told owner theirs old new (Ok done) ready (λ up. keeps_later owner old mid new same (keeps up)) tt code is other
told_later owner theirs old mid new (Err fault) free same book ready keeps takes refused code is other =
    told owner theirs old new (Err fault) tt (λ up. keeps_later owner old mid new same (keeps up)) (owner_refused owner old mid fault free same book takes refused) code is other

pub free_not_book : (theirs : Owner) (db : Database) → IsFree db.schema → IsBookOf theirs db → ⊥
free_not_book theirs db free is = listed_used db.schema (codes "book") _ is.book.tables.book free.book

-- ---- an opening without its connection

pub gone : {B C : Type 0} (opened : Result B (C × StoreFault)) (result : Result B StoreFault) → IfErr opened (λ back. result ≡ Err back.1) → IsErrAnd opened (λ back. back.1 ≡ Version) → IsErrAnd result (λ fault. fault ≡ Version)
gone (Ok book) result is h = absurd h
gone (Err back) result is h = rw is h
