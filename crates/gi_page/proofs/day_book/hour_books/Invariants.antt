use Rattle.std.proofs.Common.{◌≡◌, length, take}
use Rattle.std.specs.Prelude.{All}
use Rattle.gi_page.specs.DayBook.{IsHourBook, cycles_in}
use Rattle.gi_page.proofs.day_book.hour_books.Given as goal

abbrev pub invariant-loop-at : goal.invariant-loop-at
invariant-loop-at g l = record {
  cycles : cycles_in l.books.items ≡ take l.at-index l.cycles;
  books : All (IsHourBook l.desk.facts l.day) l.books.items;
  count : length l.books.items ≡ l.at-index;
}
