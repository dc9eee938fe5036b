use Rattle.gi_messages.proofs.WritingLemmas.{data_of-stands}
use Rattle.gi_messages.proofs.laws.writes_message.Goals as goal

pub returns : goal.returns
returns c = data_of-stands
