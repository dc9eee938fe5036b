use Rattle.gi_messages.proofs.WrittenTokens.{wrote, closed}
use Rattle.gi_messages.proofs.members.put_text.Goals as goal

pub returns : goal.returns
returns c = closed (wrote c.in_ok-put_key.ensures) c.string.ensures
