use Rattle.gi_reports.proofs.PlaceLemmas.{counted_distinct, counted_stand}
use Rattle.gi_reports.proofs.laws.counts_each_once.Goals as goal

pub returns : goal.returns
returns c = λ submissions. (counted_distinct submissions, counted_stand submissions)
