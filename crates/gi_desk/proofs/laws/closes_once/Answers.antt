use Rattle.gi_desk.proofs.CycleLaws.{closes-once}
use Rattle.gi_desk.proofs.laws.closes_once.Goals as goal

pub returns : goal.returns
returns c = closes-once
