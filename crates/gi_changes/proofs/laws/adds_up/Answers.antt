use Rattle.gi_changes.proofs.SumLemmas.{added_up, added_up_to_schedule}
use Rattle.gi_changes.proofs.laws.adds_up.Goals as goal

pub returns-clause-sum : goal.returns-clause-sum
returns-clause-sum c = added_up

pub returns-clause-schedule : goal.returns-clause-schedule
returns-clause-schedule c = added_up_to_schedule
