use Rattle.gi_processing.proofs.PriorityLaws.{all_whole}
use Rattle.gi_processing.proofs.laws.whole_where_all_fit.Goals as goal

pub returns : goal.returns
returns c = all_whole
