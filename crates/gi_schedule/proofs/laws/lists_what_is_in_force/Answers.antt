use Rattle.gi_schedule.proofs.HourLemmas.{sorted_hours}
use Rattle.gi_schedule.proofs.InForceLemmas.{hours_are_in_force}
use Rattle.gi_schedule.proofs.KeyOrderLemmas.{sorted_day}
use Rattle.gi_schedule.proofs.ListedLemmas.{each_hour, each_pair}
use Rattle.gi_schedule.proofs.laws.lists_what_is_in_force.Goals as goal

pub returns-clause-in_force : goal.returns-clause-in_force
returns-clause-in_force c = hours_are_in_force

pub returns-clause-hours : goal.returns-clause-hours
returns-clause-hours c = each_hour

pub returns-clause-hours_once : goal.returns-clause-hours_once
returns-clause-hours_once c = sorted_hours

pub returns-clause-pairs : goal.returns-clause-pairs
returns-clause-pairs c = each_pair

pub returns-clause-pairs_once : goal.returns-clause-pairs_once
returns-clause-pairs_once c = sorted_day
