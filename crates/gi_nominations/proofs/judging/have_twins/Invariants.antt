use Rattle.std.proofs.Common.{◌≡◌, drop}
use Rattle.gi_nominations.specs.Lines.{has_twins}
use Rattle.gi_nominations.proofs.judging.have_twins.Given as goal

abbrev pub invariant-loop-i : goal.invariant-loop-i
invariant-loop-i l = has_twins (drop l.i l.lines) ≡ has_twins l.lines
