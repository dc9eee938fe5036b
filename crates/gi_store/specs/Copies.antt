-- What is read of copies of a book's two files.
use Rattle.std.specs.Prelude.{◌≡◌, ◌⊎◌, ⊤, ℕ, List, [], ◌∷◌, length, drop, take, nat_lt, if◌then◌else◌, Option, None, Some, Err}
use Rattle.std.specs.Str.{bytes_eq}
use Rattle.sqlite_disk.specs.Memory.{memory_bytes}
use Rattle.sqlite_disk.specs.declared.files.Files.{Files}
use Rattle.sqlite_disk.specs.declared.memory.Memory.{Memory}
use Rattle.sqlite_disk.specs.contracts.memory.MemoryDisk.TheImpl as memory
use Rattle.sqlite_store.specs.declared.store.FileStore.{FileStore}
use Rattle.sqlite.specs.State.{HasCleanDisk, State}
use Rattle.sqlite.specs.Held.{Held}
use Rattle.sqlite.specs.Files.{Finds, file_state}
use Rattle.gi_facts.specs.declared.fact.Fact.{Fact}
use Rattle.gi_store.specs.declared.owner.Owner.{Owner}
use Rattle.gi_store.specs.declared.head.Head.{Head}
use Rattle.gi_store.specs.declared.store_fault.StoreFault.{StoreFault}
use Rattle.gi_store.specs.Book.{IsLoadFault, IsRead}
use Rattle.gi_store.specs.Facts.{AreFacts}
use Rattle.gi_store.specs.Heads.{IsHeadFault, none_by}
use Rattle.gi_store.specs.Keeping.{Keeps}
use Rattle.gi_store.specs.Opening.{IsNameFault}
use Rattle.gi_store.specs.Rows.{SaysOwner, facts_in}
use Rattle.gi_store.specs.Tables.{IsFree}

-- whose a book is, its facts, and how many bytes a log beside its file has that may have rows
pub record BookCopyState : Type 0 where
  pub owner : Option Owner
  pub facts : List Fact
  pub log : ℕ

-- These are the facts of the book in the database that the bytes of a file and of the log beside it hold, and whose it is: no owner's
-- where it has no such table. No row is made or changed before they are read.
pub record IsCopyIn (db log : List ℕ) (copy : BookCopyState) : Type 0 where
  pub files : Files Memory
  pub file : memory_bytes files.db ≡ db
  pub journal : memory_bytes files.log ≡ log
  pub opened : Held (FileStore Memory memory.ghosts)
  pub read : Held (FileStore Memory memory.ghosts)
  pub found : HasCleanDisk (file_state read) → Finds files opened × Keeps (file_state opened) (file_state read) × IsRead (file_state read) copy.facts × SaysOwner copy.owner (file_state read).now

-- the head tells no facts, or there is none
abbrev pub TellsNone : Option Head → Type 0
TellsNone None = ⊤
TellsNone (Some head) = head.facts ≡ 0

-- A book could be made in the database that the bytes of a file and of the log beside it hold, and the head tells no facts.
pub record HoldsNone (head : Option Head) (db log : List ℕ) : Type 0 where
  pub files : Files Memory
  pub file : memory_bytes files.db ≡ db
  pub journal : memory_bytes files.log ≡ log
  pub opened : Held (FileStore Memory memory.ghosts)
  pub found : HasCleanDisk (file_state opened) → Finds files opened
  pub free : IsFree (file_state opened).now.schema
  pub told : TellsNone head

-- why there is none: its rows are no facts, it says no owner that there is, or its facts are not those that the head tells
abbrev pub IsCopyFault : Option Head → State → StoreFault → Type 0
IsCopyFault head s why = IsLoadFault s why ⊎ (IsNameFault s why ⊎ ((facts : List Fact) × AreFacts (facts_in s.now) facts × IsHeadFault head facts why))

-- The database that the bytes of a file and of the log beside it hold gives no book, for this reason: where one could be made in it, its
-- head tells facts.
pub record IsCopyRefused (head : Option Head) (db log : List ℕ) (why : StoreFault) : Type 0 where
  pub files : Files Memory
  pub file : memory_bytes files.db ≡ db
  pub journal : memory_bytes files.log ≡ log
  pub opened : Held (FileStore Memory memory.ghosts)
  pub read : Held (FileStore Memory memory.ghosts)
  pub free : IsFree (file_state opened).now.schema → Err why ≡ none_by {X = BookCopyState} head
  pub found : HasCleanDisk (file_state read) → Finds files opened × Keeps (file_state opened) (file_state read) × (¬ IsFree (file_state opened).now.schema → IsCopyFault head (file_state opened) why)

-- How long a log is that may have rows, else 0: one that is too short for a page, or has zeros in the place of the first page's number, has none.
abbrev pub rows_length : List ℕ → ℕ
rows_length log = if nat_lt (length log) 568 then 0 else if bytes_eq (take 4 (drop 32 log)) (0 ∷ 0 ∷ 0 ∷ 0 ∷ []) then 0 else length log
