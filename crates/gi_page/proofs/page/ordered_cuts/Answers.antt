use Rattle.std.proofs.Common.{◌≡◌, ◌∙◌, List, length, subst, arith}
use Rattle.gi_day_tables.specs.Cuts.{IsLargestFirst}
use Rattle.gi_day_tables.specs.declared.row_cut.RowCut.{RowCut}
use Rattle.gi_page.specs.DayBook.{cycles_in}
use Rattle.gi_page.specs.Page.{cuts_below, cuts_of}
use Rattle.gi_page.proofs.page.ordered_cuts.Goals as goal

pub returns : goal.returns
returns g c =
    let side = g.R.Role.SIDE in
    let desk = c.args.desk.now in
    let cycles = cycles_in c.args.books.now in
    let keys = c.args.keys.now in
    let place : c.loop-place.place ≡ length keys = omega arith in
    let all : c.loop-place.cuts.items ≡ cuts_of side desk c.args.day cycles keys = c.loop-place.invariant ∙ (λ t. cuts_below side desk c.args.day cycles keys (place t)) in
    subst (λ (l : List RowCut). IsLargestFirst l c.largest_first.new.cuts.items) all c.in_ok-largest_first.ensures
