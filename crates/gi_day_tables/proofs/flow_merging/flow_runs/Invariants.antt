use Rattle.std.proofs.Common.{◌≡◌, ◌≤◌, ◌+◌, ◌++◌, drop}
use Rattle.gi_day_tables.specs.FlowRuns.{flow_runs_from}
use Rattle.gi_day_tables.proofs.flow_merging.flow_runs.Given as goal

abbrev pub invariant-loop-hour : goal.invariant-loop-hour
invariant-loop-hour l = record {
  rest : l.found.items ++ flow_runs_from l.run (drop l.hour-index l.more) ≡ flow_runs_from l.initial.run l.more;
  within : l.run.hours ≤ l.hour-index + 1;
}
