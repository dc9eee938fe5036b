use Rattle.gi_messages.proofs.WrittenTokens.{wrote, followed}
use Rattle.gi_messages.proofs.line_writing.put_lines.Goals as goal

pub returns : goal.returns
returns g c = followed c.put_each_line.result _ _ (wrote c.in_ok-put_key.ensures) c.put_each_line.ensures
