use Rattle.gi_day_tables.proofs.LawLemmas.{lines_tell_all}
use Rattle.gi_day_tables.proofs.laws.lines_tell_all.Goals as goal

pub returns : goal.returns
returns c = lines_tell_all
