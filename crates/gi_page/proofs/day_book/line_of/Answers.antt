use Rattle.std.proofs.Common.{◌≡◌, arith}
use Rattle.gi_pairs.specs.Pair.{code_at}
use Rattle.gi_pairs.specs.Side.{other}
use Rattle.gi_page.proofs.BookLemmas.{line_is}
use Rattle.gi_page.proofs.day_book.line_of.Goals as goal

pub returns : goal.returns
returns g c =
    let own : c.at-own.result ≡ code_at g.R.Role.SIDE c.args.key.now.pair = grind (arith, c.at-own.ensures, c.SIDE.ensures) in
    let counterparty : c.at-other.result ≡ code_at (other g.R.Role.SIDE) c.args.key.now.pair = grind (arith, c.at-other.ensures, c.other.ensures, c.SIDE-2.ensures) in
    line_is g.R.Role.SIDE c.args.desk.now.facts c.args.id.now c.args.key.now c.args.book.now.entries c.at-own.result c.at-other.result _ _ c.requires own counterparty c.document.ensures c.line_in.ensures
