use Rattle.std.proofs.Common.{◌≡◌, ◌++◌, take}
use Rattle.gi_page.specs.DayBook.{cycles_in}
use Rattle.gi_page.specs.Page.{row_texts}
use Rattle.gi_page.proofs.page.put_rows.Given as goal

abbrev pub invariant-loop-key : goal.invariant-loop-key
invariant-loop-key g l = l.out.items ≡ l.fn.out.items ++ row_texts g.R.Role.SIDE l.desk l.day (cycles_in l.books) (take l.key-index l.keys)
