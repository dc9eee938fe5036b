-- What holds of every book.
use Rattle.sqlite_trees.specs.declared.memory.MemStore.{MemStore}
use Rattle.sqlite.specs.Held.{Held, state}
use Rattle.sqlite.specs.Steps.{over_memory}
use Rattle.gi_store.specs.Clean.{IsClean}
use Rattle.gi_store.specs.Failing.{HasFailed}

-- a database in memory is never written by others, and gives back what was written
abbrev pub MemoryIsClean : Type 0
MemoryIsClean = (c : Held MemStore) → IsClean over_memory c

-- From call to call no disk of a database in memory fails: that cause of a failure (`FailsToRead`) it never has.
abbrev pub MemoryNeverFails : Type 0
MemoryNeverFails = (old new : Held MemStore) → ¬ HasFailed (state over_memory old) (state over_memory new)
