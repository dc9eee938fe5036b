use Rattle.std.proofs.Common.{◌≡◌}
use Rattle.gi_page.specs.DayBook.{cycles_in}
use Rattle.gi_page.specs.Page.{cuts_below}
use Rattle.gi_page.proofs.page.ordered_cuts.Given as goal

abbrev pub invariant-loop-place : goal.invariant-loop-place
invariant-loop-place g l = l.cuts.items ≡ cuts_below g.R.Role.SIDE l.desk l.day (cycles_in l.books) l.keys l.place
