use Rattle.gi_changes.proofs.SumLemmas.{begun_after, begun_from_nothing}
use Rattle.gi_changes.proofs.laws.begins_after.Goals as goal

pub returns-clause-after : goal.returns-clause-after
returns-clause-after c = begun_after

pub returns-clause-first : goal.returns-clause-first
returns-clause-first c = begun_from_nothing
