use Rattle.gi_desk.proofs.CycleLaws.{meets-once}
use Rattle.gi_desk.proofs.laws.meets_once.Goals as goal

pub returns : goal.returns
returns c = meets-once
