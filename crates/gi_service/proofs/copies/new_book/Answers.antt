use Rattle.sqlite.specs.Held.{state}
use Rattle.sqlite.specs.Steps.{over_memory}
use Rattle.gi_service.proofs.Copied.{copy_of_none, loaded_none}
use Rattle.gi_service.proofs.copies.new_book.Goals as goal

pub returns-in-Ok-clause-loaded : goal.returns-in-Ok-clause-loaded
returns-in-Ok-clause-loaded c =
    let clean = c.memory_is_clean.ensures c.load.new.self.connection in
    loaded_none (state over_memory c.in_ok-book.book.connection) (state over_memory c.load.new.self.connection) c.in-Ok.none.items c.load.new.self.loaded c.in_ok-book.ensures.opened.2
    (c.in-Ok.ensures.kept clean) (c.in-Ok.ensures.facts clean) c.in-Ok.ensures.loaded

pub returns-in-Ok-clause-none : goal.returns-in-Ok-clause-none
returns-in-Ok-clause-none c =
    let clean = c.memory_is_clean.ensures c.load.new.self.connection in
    copy_of_none (state over_memory c.in_ok-book.book.connection) (state over_memory c.load.new.self.connection) c.in-Ok.none.items c.in_ok-book.ensures.opened.2 (c.in-Ok.ensures.kept clean)
    (c.in-Ok.ensures.facts clean)
