use Rattle.std.proofs.Common.{◌≡◌, length, rules}
use Rattle.sqlite.specs.Held.{state}
use Rattle.gi_store.specs.Book.{counted}
use Rattle.gi_store.proofs.Numbering.{counted_low, read_known}
use Rattle.gi_store.proofs.book_store.BookStore.load.Goals as goal

pub invariant_of-self-2 : goal.invariant_of-self-2
invariant_of-self-2 g c =
    let is : c.counted-self-inside.result ≡ counted (length c.in_ok-facts.facts.items) = search rules in
    rw is (
      counted_low (length c.in_ok-facts.facts.items),
      λ clean. record {
        idle = c.read_book.ensures.idle clean;
        known = read_known (state g.S.Store c.read_book.new.connection) c.in_ok-facts.facts.items (c.in_ok-facts.ensures.facts clean);
      },
      rw is at c.kept_on.ensures.told,
    )
