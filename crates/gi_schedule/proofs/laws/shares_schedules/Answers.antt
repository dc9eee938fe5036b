use Rattle.gi_schedule.proofs.SharedLemmas.{shared}
use Rattle.gi_schedule.proofs.laws.shares_schedules.Goals as goal

pub returns : goal.returns
returns c = shared
