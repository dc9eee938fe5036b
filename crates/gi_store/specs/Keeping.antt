-- What a call does to a database that holds a book, and what a crash leaves.
use Rattle.std.specs.Prelude.{◌≡◌, ◌≢◌, ◌⊎◌, ℕ, List, false, [], IsTrue}
use Rattle.std.specs.List.{AllByRecursion}
use Rattle.sqlite_trees.specs.Tree.{Trees, put_row}
use Rattle.sqlite_schema.specs.declared.schema.Schema.{Schema}
use Rattle.sqlite_rules.specs.Edit.{IsNoIndex}
use Rattle.sqlite_catalog.specs.Change.{KeepsRows}
use Rattle.sqlite.specs.Effect.{Database, IsDatabase}
use Rattle.sqlite.specs.State.{State}
use Rattle.gi_store.specs.Tables.{HasTables, IsFree, TakesOwner, with_tables, with_two, with_owner, book_tree, facts_tree, owner_tree}
use Rattle.gi_store.specs.declared.owner.Owner.{Owner}
use Rattle.gi_store.specs.Owner.{owner_text}
use Rattle.gi_store.specs.Rows.{facts_in, HasVersion, HasName, IsOwned, kept_row}

-- no transaction is under way, and while the connection is open nothing waits to be committed
pub record IsIdle (s : State) : Type 0 where
  pub autocommit : s.in_transaction ≡ false
  pub settled : IsTrue s.is_open → s.now ≡ s.committed

-- A call that writes nothing: what is there while the connection is open was there before.
pub record Keeps (old new : State) : Type 0 where
  pub was_open : IsTrue new.is_open → IsTrue old.is_open
  pub same : IsTrue new.is_open → new.now ≡ old.now

-- a crash leaves nothing that it could not leave before
abbrev pub AddsNoOutcome : State → State → Type 0
AddsNoOutcome old new = (db : Trees) → new.may_leave db → old.may_leave db

-- the row with this number and this text is put among the facts, and all else but the indexes stays
pub record PutsRow (schema : Schema) (n : ℕ) (text : List ℕ) (old new : Trees) : Type 0 where
  pub facts : new (facts_tree schema) ≡ put_row (kept_row n text) (old (facts_tree schema))
  pub others : (t : ℕ) → t ≢ facts_tree schema → IsNoIndex schema t → new t ≡ old t

-- a crash leaves what it could leave before, or that
abbrev pub MayPutRow : ℕ → List ℕ → State → State → Type 0
MayPutRow n text old new = (db : Trees) → new.may_leave db → old.may_leave db ⊎ PutsRow old.now.schema n text old.now.trees db

-- a call that committed nothing, and left no transaction under way
pub record KeepsCommitted (old new : State) : Type 0 where
  pub autocommit : new.in_transaction ≡ false
  pub was_open : IsTrue new.is_open → IsTrue old.is_open
  pub same : IsTrue new.is_open → (new.now ≡ old.committed) × (new.committed ≡ old.committed)

-- a book of this version: the two tables, and the one row of the version
pub record IsVersion (n : ℕ) (db : Database) : Type 0 where
  pub tables : HasTables db.schema
  pub version : HasVersion n db

-- a book of one of the versions that are read, 1 and 2
pub record IsBook (db : Database) : Type 0 where
  pub tables : HasTables db.schema
  pub version : HasVersion 1 db ⊎ HasVersion 2 db

-- a book that says that it is this owner's
pub record IsBookOf (owner : Owner) (db : Database) : Type 0 where
  pub book : IsBook db
  pub owned : IsOwned owner db

-- an older book: one that says no owner, and can be made to
pub record IsOlderBook (db : Database) : Type 0 where
  pub book : IsBook db
  pub takes : TakesOwner db.schema

-- each table but the one of the version has the rows that it had
abbrev pub KeepsOthers : Schema → Trees → Trees → Type 0
KeepsOthers schema old new = AllByRecursion (λ t. t.tree ≢ book_tree schema → new t.tree ≡ old t.tree) schema.tables

-- The two tables that every book has come after the others, the row of the version is in one, and each table that was listed has the rows that it had.
pub record MakesTwo (old new : Database) : Type 0 where
  pub listed : new.schema ≡ with_two old.schema (book_tree new.schema) (facts_tree new.schema)
  pub sound : IsDatabase new
  pub book : IsVersion 2 new
  pub empty : facts_in new ≡ []
  pub others : KeepsRows old.schema.tables old.trees new.trees

-- The third table comes after the others with the one row of this name, and each table that was listed has the rows that it had.
pub record MakesThird (name : List ℕ) (old new : Database) : Type 0 where
  pub listed : new.schema ≡ with_owner old.schema (owner_tree new.schema)
  pub sound : IsDatabase new
  pub named : HasName name new
  pub others : KeepsRows old.schema.tables old.trees new.trees

-- A book of version 2 with no facts, of the owner of this name, is made beside what was there: the three tables come after the others, the rows of the version and of the name are in two, and each table that was listed has the rows that it had.
pub record MakesNamed (name : List ℕ) (old new : Database) : Type 0 where
  pub free : IsFree old.schema
  pub listed : new.schema ≡ with_tables old.schema (book_tree new.schema) (facts_tree new.schema) (owner_tree new.schema)
  pub sound : IsDatabase new
  pub book : IsVersion 2 new
  pub named : HasName name new
  pub empty : facts_in new ≡ []
  pub others : KeepsRows old.schema.tables old.trees new.trees

abbrev pub MakesBook : Owner → Database → Database → Type 0
MakesBook owner = MakesNamed (owner_text owner)

-- The row of the version tells 2 from now on: no other row is changed, and no table is made.
pub record SetsVersion (old new : Database) : Type 0 where
  pub schema : new.schema ≡ old.schema
  pub sound : IsDatabase new
  pub book : IsVersion 2 new
  pub facts : facts_in new ≡ facts_in old
  pub named : (name : List ℕ) → HasName name old → HasName name new
  pub others : KeepsOthers old.schema old.trees new.trees

-- a book of version 1 becomes one of version 2
pub record Raises (old new : Database) : Type 0 where
  pub first : IsVersion 1 old
  pub sets : SetsVersion old new

-- this owner's book of version 1 becomes one of version 2
pub record RaisesOf (owner : Owner) (old new : Database) : Type 0 where
  pub owned : IsOwned owner old
  pub raises : Raises old new

-- An older book says from now on that it is the owner's of this name, and is of version 2: the third table comes after the others, and each table that was listed has the rows that it had, but for the row of the version.
pub record AddsName (name : List ℕ) (old new : Database) : Type 0 where
  pub older : IsOlderBook old
  pub listed : new.schema ≡ with_owner old.schema (owner_tree new.schema)
  pub sound : IsDatabase new
  pub book : IsVersion 2 new
  pub named : HasName name new
  pub facts : facts_in new ≡ facts_in old
  pub others : KeepsOthers old.schema old.trees new.trees

abbrev pub AddsOwner : Owner → Database → Database → Type 0
AddsOwner owner = AddsName (owner_text owner)

-- an older book has its owner, or this owner's of version 1 is of version 2
abbrev pub Upgrades : Owner → Database → Database → Type 0
Upgrades owner old new = AddsOwner owner old new ⊎ RaisesOf owner old new

-- the connection is open at what was made, which is committed
pub record IsMade (Makes : Database → Database → Type 0) (old new : State) : Type 0 where
  pub idle : IsIdle new
  pub is_open : IsTrue new.is_open
  pub made : Makes old.now new.now

-- these trees have what was so made
abbrev pub MayLeave : (Database → Database → Type 0) → Database → Trees → Type 0
MayLeave Makes old db = (schema : Schema) × Makes old (record { schema = schema; trees = db })

-- a crash leaves what it could leave before, or what was so made
abbrev pub LeavesOr : (Database → Database → Type 0) → State → State → Type 0
LeavesOr Makes old new = (db : Trees) → new.may_leave db → old.may_leave db ⊎ MayLeave Makes old.now db

-- a crash leaves what it could leave before, what was there with a new book, an older book with its owner, or the owner's book of version 1 as one of version 2
abbrev pub LeavesOrMakes : Owner → State → State → Type 0
LeavesOrMakes owner old new = (db : Trees) → new.may_leave db → old.may_leave db ⊎ (MayLeave (MakesBook owner) old.now db ⊎ MayLeave (Upgrades owner) old.now db)

-- the connection is open at this owner's book of version 2, with no transaction under way and nothing to commit
pub record IsReady (owner : Owner) (s : State) : Type 0 where
  pub idle : IsIdle s
  pub is_open : IsTrue s.is_open
  pub book : IsVersion 2 s.now
  pub owned : IsOwned owner s.now

-- all is as it was, or a book of version 1 is of version 2
abbrev pub KeepsOrRaises : State → State → Type 0
KeepsOrRaises old new = (new.now ≡ old.now) ⊎ Raises old.now new.now

-- all is as it was, or an older book has its owner, or this owner's of version 1 is of version 2
abbrev pub KeepsOrUpgrades : Owner → State → State → Type 0
KeepsOrUpgrades owner old new = (new.now ≡ old.now) ⊎ Upgrades owner old.now new.now

-- all is as it was, there was no book and now there is one with no facts, an older book has its owner, or this owner's of version 1 is of version 2
abbrev pub KeepsOrMakes : Owner → State → State → Type 0
KeepsOrMakes owner old new = (new.now ≡ old.now) ⊎ (MakesBook owner old.now new.now ⊎ Upgrades owner old.now new.now)
