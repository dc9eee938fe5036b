use Rattle.gi_picture.proofs.LawLemmas.{runs_are_longest, runs_are_the_hours}
use Rattle.gi_picture.proofs.laws.runs_are_the_hours.Goals as goal

pub returns-clause-hours : goal.returns-clause-hours
returns-clause-hours c = runs_are_the_hours

pub returns-clause-longest : goal.returns-clause-longest
returns-clause-longest c = runs_are_longest
