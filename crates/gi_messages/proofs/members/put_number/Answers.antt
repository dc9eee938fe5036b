use Rattle.gi_messages.proofs.WrittenTokens.{wrote, closed}
use Rattle.gi_messages.proofs.members.put_number.Goals as goal

pub returns : goal.returns
returns c = closed (wrote c.in_ok-put_key.ensures) c.u64.ensures
