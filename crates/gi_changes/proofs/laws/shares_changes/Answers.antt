use Rattle.gi_changes.proofs.SumLemmas.{shared}
use Rattle.gi_changes.proofs.laws.shares_changes.Goals as goal

pub returns : goal.returns
returns c = shared
