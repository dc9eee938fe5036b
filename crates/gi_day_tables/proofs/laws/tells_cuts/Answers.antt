use Rattle.gi_day_tables.proofs.LawLemmas.{tells_cuts}
use Rattle.gi_day_tables.proofs.laws.tells_cuts.Goals as goal

pub returns : goal.returns
returns c = tells_cuts
