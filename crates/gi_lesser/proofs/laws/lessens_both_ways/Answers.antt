use Rattle.gi_lesser.proofs.BothWays.{both-ways}
use Rattle.gi_lesser.proofs.laws.lessens_both_ways.Goals as goal

pub returns : goal.returns
returns c = both-ways
