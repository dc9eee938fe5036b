use Rattle.std.proofs.Common.{rules}
use Rattle.std.proofs.lemmas.List.Sorted.{answers_always}
use Rattle.gi_pairs.specs.Row.{key_of}
use Rattle.gi_pairs.proofs.table.sort_rows.Goals as goal

pub returns-clause-sorted : goal.returns-clause-sorted
returns-clause-sorted c = c.sort_unstable_by_key.ensures.sorted key_of (answers_always _ _ _ (λ f a r g called. search rules))
