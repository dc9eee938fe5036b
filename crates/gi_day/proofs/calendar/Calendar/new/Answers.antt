use Rattle.gi_day.proofs.ZoneLemmas.{hours_at, is_read}
use Rattle.gi_day.proofs.calendar.Calendar.new.Goals as goal

pub returns-in-Ok-clause-instants : goal.returns-in-Ok-clause-instants
returns-in-Ok-clause-instants c = hours_at

pub returns-in-Err-clause-succeeds : goal.returns-in-Err-clause-succeeds
returns-in-Err-clause-succeeds c = c.in-Err.ensures.succeeds.1 is_read

pub returns-in-Err-clause-instants : goal.returns-in-Err-clause-instants
returns-in-Err-clause-instants c = hours_at
