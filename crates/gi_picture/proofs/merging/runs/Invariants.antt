use Rattle.std.proofs.Common.{◌≡◌, ◌≤◌, ◌+◌, ◌++◌, drop}
use Rattle.gi_picture.specs.Runs.{runs_from}
use Rattle.gi_picture.proofs.merging.runs.Given as goal

abbrev pub invariant-loop-value : goal.invariant-loop-value
invariant-loop-value l = record {
  rest : l.found.items ++ runs_from l.run (drop l.value-index l.more) ≡ runs_from l.initial.run l.more;
  within : l.run.behind ≤ l.value-index + 1;
}
