use Rattle.gi_day_tables.proofs.LawLemmas.{flow_runs_are_longest, flow_runs_are_the_hours}
use Rattle.gi_day_tables.proofs.laws.flow_runs_are_the_hours.Goals as goal

pub returns-clause-hours : goal.returns-clause-hours
returns-clause-hours c = flow_runs_are_the_hours

pub returns-clause-longest : goal.returns-clause-longest
returns-clause-longest c = flow_runs_are_longest
