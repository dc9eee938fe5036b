use Rattle.std.proofs.Common.{◌≡◌, drop}
use Rattle.gi_live.specs.Telling.{saved_by}
use Rattle.gi_live.proofs.telling.saved_by.Given as goal

abbrev pub invariant-loop-mark : goal.invariant-loop-mark
invariant-loop-mark l = saved_by l.saved l.marks ≡ saved_by l.now (drop l.mark-index l.marks)
