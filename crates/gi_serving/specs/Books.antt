-- A book beside the desk that was replayed from it.
use Rattle.std.specs.Prelude.{◌≡◌, List, length}
use Rattle.sqlite_trees.specs.declared.store.Store.{Ghosts}
use Rattle.sqlite.specs.Held.{state}
use Rattle.gi_facts.specs.declared.fact.Fact.{Fact}
use Rattle.gi_store.specs.Book.{BookState, IsRead, counted}
use Rattle.gi_store.specs.Clean.{IsClean}

-- the book is loaded, and these are its facts
abbrev pub HasFacts : {S : Type 0} → Ghosts S → BookState S → List Fact → Type 0
HasFacts store book facts = (book.loaded ≡ counted (length facts)) × (IsClean store book.connection → IsRead (state store book.connection) facts)
