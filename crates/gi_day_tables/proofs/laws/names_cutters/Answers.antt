use Rattle.gi_day_tables.proofs.LawLemmas.{names_cutters}
use Rattle.gi_day_tables.proofs.laws.names_cutters.Goals as goal

pub returns : goal.returns
returns c = names_cutters
