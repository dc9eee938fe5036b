-- A book as it was opened.
use Rattle.sqlite_trees.specs.declared.store.Store.{Ghosts}
use Rattle.sqlite.specs.Held.{state}
use Rattle.gi_store.specs.Book.{BookState}
use Rattle.gi_store.specs.Clean.{IsClean}
use Rattle.gi_store.specs.Keeping.{Keeps}

-- the book was opened so, and no row of it was changed since
pub record IsKeptFrom {S : Type 0} (store : Ghosts S) (opens : BookState S → Type 0) (book : BookState S) : Type 0 where
  pub before : BookState S
  pub opened : opens before
  pub kept : IsClean store book.connection → Keeps (state store before.connection) (state store book.connection)
