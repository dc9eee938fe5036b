use Rattle.gi_schedule.proofs.CutLemmas.{all_told}
use Rattle.gi_schedule.proofs.laws.says_what_was_cut.Goals as goal

pub returns : goal.returns
returns c = all_told c.explains_the_frozen.ensures c.explains_the_confirmed.ensures
