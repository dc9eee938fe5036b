use Rattle.gi_parts.proofs.Wholes.{sends-readable}
use Rattle.gi_parts.proofs.laws.sends_readable_parts.Goals as goal

pub returns : goal.returns
returns c = sends-readable
