use Rattle.gi_simulation.proofs.OnItsWay.{carried_delivered, only_sent_waits, sent_delivered}
use Rattle.gi_simulation.proofs.laws.what_is_carried_is_delivered.Goals as goal

pub returns-clause-sent : goal.returns-clause-sent
returns-clause-sent c = sent_delivered

pub returns-clause-waits : goal.returns-clause-waits
returns-clause-waits c = only_sent_waits

pub returns-clause-delivered : goal.returns-clause-delivered
returns-clause-delivered c = carried_delivered
