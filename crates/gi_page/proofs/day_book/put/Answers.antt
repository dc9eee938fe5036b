use Rattle.std.proofs.Common.{◌∙◌, ℕ, List, Option, ap, sym}
use Rattle.gi_page.specs.DayBook.{number_in, number_put}
use Rattle.gi_page.proofs.BookLemmas.{put_found}
use Rattle.gi_page.proofs.day_book.put.Goals as goal

pub returns : goal.returns
returns c = λ other.
    put_found c.in-Some.portfolio other c.args.number (number_in c.args.book.now.entries other) (number_in c.insert.new.self.entries other) (c.in_ok-insert.ensures.updates.0 other)
    ∙ ap (λ (p : Option (List ℕ)). number_put other (number_in c.args.book.now.entries other) p c.args.number) (sym c.in-Some.is)
