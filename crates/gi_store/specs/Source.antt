-- What is known of books that are read by name.
use Rattle.std.specs.Prelude.{ℕ, List, Result}
use Rattle.gi_store.specs.Copies.{BookCopyState}
use Rattle.gi_store.specs.declared.store_fault.StoreFault.{StoreFault}

-- what may come of reading a book: whose it is and its facts, or why there is none
abbrev pub Reading : Type 1
Reading = Result BookCopyState StoreFault → Type 0

-- the same of each name
abbrev pub Source : Type 1
Source = List ℕ → Reading
