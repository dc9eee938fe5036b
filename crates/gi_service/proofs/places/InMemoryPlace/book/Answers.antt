use Rattle.sqlite.specs.Held.{state}
use Rattle.sqlite.specs.Steps.{over_memory}
use Rattle.gi_service.proofs.Copied.{no_rows}
use Rattle.gi_service.proofs.places.InMemoryPlace.book.Goals as goal

pub returns-in-Ok-clause-opened : goal.returns-in-Ok-clause-opened
returns-in-Ok-clause-opened c =
    let clean = c.memory_is_clean.ensures c.in-Ok.book.connection in
    let ready = c.in-Ok.ensures.ready clean in
    let none = no_rows _ (state over_memory c.in_ok-connection.connection) (state over_memory c.in-Ok.book.connection) c.in_ok-connection.ensures.empty ready (c.in-Ok.ensures.kept clean) in
    (c.in-Ok.ensures.not_loaded, ready, none)
