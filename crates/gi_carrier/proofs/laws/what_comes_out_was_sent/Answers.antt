use Rattle.gi_carrier.proofs.CarrierLaws.{what_comes_out, what_waits}
use Rattle.gi_carrier.proofs.laws.what_comes_out_was_sent.Goals as goal

pub returns-clause-waits : goal.returns-clause-waits
returns-clause-waits c = what_waits

pub returns-clause-out : goal.returns-clause-out
returns-clause-out c = what_comes_out
