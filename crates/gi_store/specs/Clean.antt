-- The premise of what is said of a book.
use Rattle.sqlite_trees.specs.declared.store.Store.{Ghosts}
use Rattle.sqlite.specs.State.{HasCleanDisk}
use Rattle.sqlite.specs.Held.{Held, state}

-- nobody else wrote the database, and the disk returned what was written
abbrev pub IsClean : {S : Type 0} → Ghosts S → Held S → Type 0
IsClean store connection = HasCleanDisk (state store connection)
