use Rattle.gi_desk.proofs.TakingLaws.{versions-rise}
use Rattle.gi_desk.proofs.laws.versions_rise.Goals as goal

pub returns : goal.returns
returns c = versions-rise
