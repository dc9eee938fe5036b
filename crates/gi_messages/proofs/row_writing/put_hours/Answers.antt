use Rattle.gi_messages.proofs.WrittenTokens.{wrote, followed}
use Rattle.gi_messages.proofs.row_writing.put_hours.Goals as goal

pub returns : goal.returns
returns c = followed c.put_quantities.result _ _ (wrote c.in_ok-put_key.ensures) c.put_quantities.ensures
