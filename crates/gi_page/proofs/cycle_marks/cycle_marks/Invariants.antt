use Rattle.std.proofs.Common.{◌≡◌}
use Rattle.gi_page.specs.Marks.{marks_of}
use Rattle.gi_page.proofs.cycle_marks.cycle_marks.Given as goal

abbrev pub invariant-loop-cycle : goal.invariant-loop-cycle
invariant-loop-cycle g l = l.marks.items ≡ marks_of g.R.Role.SIDE l.desk l.frame l.cycle
