use Rattle.gi_day_tables.proofs.LawLemmas.{shows_groups}
use Rattle.gi_day_tables.proofs.laws.shows_what_fits.Goals as goal

pub returns : goal.returns
returns c = shows_groups
