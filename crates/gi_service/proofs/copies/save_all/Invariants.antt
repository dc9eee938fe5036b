use Rattle.std.proofs.Common.{◌≡◌, [], take}
use Rattle.sqlite.specs.Held.{state}
use Rattle.gi_store.specs.Book.{counted}
use Rattle.gi_store.specs.Clean.{IsClean}
use Rattle.gi_service.specs.Copies.{IsCopy}
use Rattle.gi_service.proofs.copies.save_all.Given as goal

abbrev pub invariant-loop-before : goal.invariant-loop-before
invariant-loop-before g l = record {
  loaded : l.book.loaded ≡ counted l.before;
  early : IsClean g.S.Store l.book.connection → IsClean g.S.Store l.fn.book.connection;
  copied : IsClean g.S.Store l.book.connection → IsCopy [] (state g.S.Store l.fn.book.connection) → IsCopy (take l.before l.desk.facts) (state g.S.Store l.book.connection);
}
