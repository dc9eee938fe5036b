use Rattle.std.proofs.Common.{◌≡◌, ◌+◌, drop}
use Rattle.gi_serving.specs.Runs.{lead}
use Rattle.gi_serving.proofs.serving.batch_length.Given as goal

abbrev pub invariant-loop-i : goal.invariant-loop-i
invariant-loop-i l = lead l.lines ≡ l.i + lead (drop l.i l.lines)
