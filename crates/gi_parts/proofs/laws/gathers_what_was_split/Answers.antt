use Rattle.gi_parts.proofs.AnyOrder.{gathers-what_was_split}
use Rattle.gi_parts.proofs.laws.gathers_what_was_split.Goals as goal

pub returns : goal.returns
returns c = gathers-what_was_split
