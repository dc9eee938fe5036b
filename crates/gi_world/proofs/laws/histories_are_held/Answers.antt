use Rattle.gi_world.proofs.HistoryLaws.{steps-held}
use Rattle.gi_world.proofs.laws.histories_are_held.Goals as goal

pub returns : goal.returns
returns c = steps-held
