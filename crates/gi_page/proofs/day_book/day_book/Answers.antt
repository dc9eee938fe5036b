use Rattle.std.proofs.Common.{◌<◌, arith, length}
use Rattle.std.specs.Option.{option_copied}
use Rattle.gi_page.proofs.BookLemmas.{book_more, no_book}
use Rattle.gi_page.proofs.day_book.day_book.Goals as goal

pub loop-before-init : goal.loop-before-init
loop-before-init g c = no_book c.args.desk.now.facts c.args.day c.new-book.result.entries c.new-book.ensures.empty

pub loop-before-preserved : goal.loop-before-preserved
loop-before-preserved g c =
    let below : c.loop-before.before < length c.args.desk.now.facts = omega (arith, c.loop-before-test.true, c.requires) in
    book_more c.args.desk.now.facts c.args.day c.loop-before.before c.loop-before.book.entries c.put.new.book.entries (option_copied c.fact.result) c.portfolio_taken-portfolio.result
    below c.fact.ensures.value c.portfolio_taken-portfolio.ensures c.in_ok-put.ensures c.loop-before.invariant
