use Rattle.gi_desk.proofs.StateLaws.{state_of-more}
use Rattle.gi_desk.proofs.laws.matches_for_good.Goals as goal

pub returns : goal.returns
returns c = state_of-more
