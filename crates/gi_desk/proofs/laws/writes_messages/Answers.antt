use Rattle.gi_desk.proofs.ReadableLaws.{writes-messages}
use Rattle.gi_desk.proofs.laws.writes_messages.Goals as goal

pub returns : goal.returns
returns c = writes-messages
