use Rattle.std.proofs.Common.{◌≡◌, ◌++◌}
use Rattle.gi_live.specs.Due.{due_among}
use Rattle.gi_live.proofs.due.add_due.Given as goal

abbrev pub invariant-loop-cycle : goal.invariant-loop-cycle
invariant-loop-cycle l = l.ids.items ≡ l.initial.ids.items ++ due_among l.closed l.moment l.frame l.cycle
