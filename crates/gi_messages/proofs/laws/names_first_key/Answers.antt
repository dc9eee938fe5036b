use Rattle.gi_messages.proofs.FirstFaults.{misses_kind, names_first_key}
use Rattle.gi_messages.proofs.laws.names_first_key.Goals as goal

pub returns-clause-key : goal.returns-clause-key
returns-clause-key c = names_first_key

pub returns-clause-kind : goal.returns-clause-kind
returns-clause-kind c = misses_kind
