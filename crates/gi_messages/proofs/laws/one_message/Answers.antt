use Rattle.gi_messages.proofs.MessageLemmas.{one_message}
use Rattle.gi_messages.proofs.laws.one_message.Goals as goal

pub returns : goal.returns
returns c = one_message
