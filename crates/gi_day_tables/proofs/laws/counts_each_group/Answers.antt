use Rattle.gi_day_tables.proofs.LawLemmas.{counts_each_group, sums_each_group}
use Rattle.gi_day_tables.proofs.laws.counts_each_group.Goals as goal

pub returns-clause-count : goal.returns-clause-count
returns-clause-count c = counts_each_group

pub returns-clause-sum : goal.returns-clause-sum
returns-clause-sum c = sums_each_group
