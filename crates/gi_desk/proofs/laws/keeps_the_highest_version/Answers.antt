use Rattle.gi_desk.proofs.TakingLaws.{highest-version}
use Rattle.gi_desk.proofs.laws.keeps_the_highest_version.Goals as goal

pub returns : goal.returns
returns c = highest-version
