use Rattle.std.proofs.Common.{◌≡◌, ◌++◌, take}
use Rattle.gi_page.specs.DayBook.{cycles_in}
use Rattle.gi_page.specs.Page.{groups}
use Rattle.gi_page.proofs.page.put_groups.Given as goal

abbrev pub invariant-loop-cut : goal.invariant-loop-cut
invariant-loop-cut g l = l.out.items ≡ l.fn.out.items ++ groups g.R.Role.SIDE l.desk l.day (cycles_in l.books) l.keys (take l.cut-index l.cuts)
