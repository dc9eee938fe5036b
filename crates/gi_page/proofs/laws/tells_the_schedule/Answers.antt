use Rattle.gi_page.proofs.LawLemmas.{sums_the_day, sums_the_schedule, tells_the_schedule}
use Rattle.gi_page.proofs.laws.tells_the_schedule.Goals as goal

pub returns-clause-pairs : goal.returns-clause-pairs
returns-clause-pairs c = tells_the_schedule

pub returns-clause-sums : goal.returns-clause-sums
returns-clause-sums c = sums_the_schedule

pub returns-clause-day : goal.returns-clause-day
returns-clause-day c = sums_the_day
