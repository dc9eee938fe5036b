use Rattle.gi_day_tables.proofs.LawLemmas.{sums_what_is_shown}
use Rattle.gi_day_tables.proofs.laws.sums_what_is_shown.Goals as goal

pub returns : goal.returns
returns c = sums_what_is_shown
