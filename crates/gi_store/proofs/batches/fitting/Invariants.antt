use Rattle.std.proofs.Common.{◌≡◌, ◌+◌}
use Rattle.gi_store.proofs.Fronts.{taken}
use Rattle.gi_store.proofs.batches.fitting.Given as goal

abbrev pub invariant-loop-before : goal.invariant-loop-before
invariant-loop-before l = l.left + taken l.facts l.before + 1 ≡ 1048576
