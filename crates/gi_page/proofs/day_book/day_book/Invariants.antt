use Rattle.gi_page.specs.DayBook.{IsBook}
use Rattle.gi_page.proofs.day_book.day_book.Given as goal

abbrev pub invariant-loop-before : goal.invariant-loop-before
invariant-loop-before g l = IsBook l.desk.facts l.day l.before l.book.entries
