use Rattle.gi_day_tables.proofs.LawLemmas.{shows_all_as_drawn}
use Rattle.gi_day_tables.proofs.laws.shows_all_as_drawn.Goals as goal

pub returns : goal.returns
returns c = shows_all_as_drawn
