-- Why the database fails where a book's rows are read.
use Rattle.std.specs.Prelude.{◌≡◌, ◌⊎◌, ◌<◌, ◌≤◌, ◌==◌, ◌^◌, ⊤, false, find, Some, IsSome, IsTrue}
use Rattle.sqlite.specs.Disk.{MoreFaults}
use Rattle.sqlite.specs.State.{State}
use Rattle.sqlite_schema.specs.declared.schema.Table.{Table}
use Rattle.sqlite_schema.specs.declared.schema.Schema.{Schema}
use Rattle.gi_store.specs.declared.store_fault.StoreFault.{StoreFault}
use Rattle.gi_store.specs.declared.store_fault.StoreFault.TheVariants.{Store}
use Rattle.gi_store.specs.Tables.{book_table, facts_table, owner_table, book_tree, facts_tree, owner_tree}

-- the disk failed or refused once more
abbrev pub HasFailed : State → State → Type 0
HasFailed old new = MoreFaults old.faults new.faults

-- No failure is forgotten, only one of the disk shuts the connection, and the limit on the steps of a query stays.
pub record Endures (old new : State) : Type 0 where
  pub faults : old.faults ≤ new.faults
  pub limit : new.step_limit ≡ old.step_limit
  pub closes : IsTrue old.is_open → IsTrue new.is_open ⊎ HasFailed old new

-- the table is the first that is listed with its tree, whose number is below 2 ^ 31
abbrev pub IsFirst : Schema → Table → Type 0
IsFirst schema table = (table.tree < 2 ^ 31) × (find (λ t. t.tree == table.tree) schema.tables ≡ Some table)

-- each of a book's two tables is so: it has a tree of its own, as every table has that SQLite makes
abbrev pub HaveOwnTrees : Schema → Type 0
HaveOwnTrees schema = IsFirst schema (book_table (book_tree schema)) × IsFirst schema (facts_table (facts_tree schema))

-- The disk failed, the connection was shut, a query had a limit on its steps, or another table has the tree of one of a book's.
abbrev pub FailsToRead : State → State → Type 0
FailsToRead old new = HasFailed old new ⊎ ((old.is_open ≡ false) ⊎ (IsSome old.step_limit ⊎ ¬ HaveOwnTrees old.now.schema))

-- where a fault is the database's, it has such a cause
abbrev pub IsCaused : State → State → StoreFault → Type 0
IsCaused old new Store = FailsToRead old new
IsCaused old new _ = ⊤

-- so is the table of the owner
abbrev pub HasOwnTree : Schema → Type 0
HasOwnTree schema = IsFirst schema (owner_table (owner_tree schema))

-- The same where the owner is read too, whose table may have the tree of another one.
abbrev pub FailsToTell : State → State → Type 0
FailsToTell old new = FailsToRead old new ⊎ ¬ HasOwnTree old.now.schema

abbrev pub IsCausedAtAll : State → State → StoreFault → Type 0
IsCausedAtAll old new Store = FailsToTell old new
IsCausedAtAll old new _ = ⊤
