use Rattle.gi_exports.proofs.SameLines.{hours_same}
use Rattle.gi_exports.proofs.laws.lists_confirmed.Goals as goal

pub returns : goal.returns
returns c = hours_same
