use Rattle.std.proofs.Common.{take}
use Rattle.gi_office.specs.Reconciling.{AreFrom}
use Rattle.gi_office.proofs.reconciling.stranger_among.Given as goal

abbrev pub invariant-loop-i : goal.invariant-loop-i
invariant-loop-i g l = AreFrom g.R.Role.SIDE l.sender.desk (take l.i l.entries)
