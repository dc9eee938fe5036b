use Rattle.std.proofs.Common.{inr, rules}
use Rattle.gi_service.proofs.Opened.{not_loaded, not_opened}
use Rattle.gi_service.proofs.stations.station.Goals as goal

pub returns-in_err-book-clause-first : goal.returns-in_err-book-clause-first
returns-in_err-book-clause-first g c =
    not_opened (g.P.Place.opens c.args.place.now g.R.Role.SIDE) (g.P.Place.refuses c.args.place.now g.R.Role.SIDE) g.R.Role.SIDE c.args.point c.from_residual.result c.in_err-book.field-0.0
    c.from_residual.ensures.1 (search rules)

pub returns-in_err-facts-clause-first : goal.returns-in_err-facts-clause-first
returns-in_err-facts-clause-first g c =
    not_loaded (g.P.Place.opens c.args.place.now g.R.Role.SIDE) (g.P.Place.refuses c.args.place.now g.R.Role.SIDE) g.R.Role.SIDE c.args.point c.from_residual-in_err-facts.result c.in_err-facts.field-0.0
    c.in_ok-book.book c.from_residual-in_err-facts.ensures.1 (search rules)

pub returns-in_err-keep-clause-first : goal.returns-in_err-keep-clause-first
returns-in_err-keep-clause-first g c =
    not_opened (g.P.Place.opens c.args.place.now g.R.Role.SIDE) (g.P.Place.refuses c.args.place.now g.R.Role.SIDE) g.R.Role.SIDE c.args.point c.from_residual-in_err-keep.result c.in_err-keep.field-0.0
    c.from_residual-in_err-keep.ensures.1 (search rules)

pub returns-in-Ok-clause-opened : goal.returns-in-Ok-clause-opened
returns-in-Ok-clause-opened g c = record { before = c.in_ok-book.book; opened = search rules; kept = rw c.in_ok-keep.ensures.connection c.load.ensures.kept }

pub returns-in-Err-clause-first : goal.returns-in-Err-clause-first
returns-in-Err-clause-first g c = inr ((c.in_ok-book.book, search rules), search rules)
