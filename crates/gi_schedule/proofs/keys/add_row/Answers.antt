use Rattle.std.proofs.Common.{◌∙◌, ap}
use Rattle.std.specs.BTreeSet.{insert_key}
use Rattle.gi_pairs.specs.Key.{key_cmp}
use Rattle.gi_schedule.proofs.KeyLemmas.{row_passed, row_wanted}
use Rattle.gi_schedule.proofs.keys.add_row.Goals as goal

pub returns-in_ok-insert-clause-added : goal.returns-in_ok-insert-clause-added
returns-in_ok-insert-clause-added c =
    c.in_ok-insert.ensures.keys ∙ ap (insert_key key_cmp c.args.keys.now.keys) c.key.ensures
    ∙ row_wanted c.args.wanted.now.portfolio c.args.row.now c.args.keys.now.keys c.has_pair.result c.has_pair.ensures c.if-has_pair.true

pub returns-else-has_pair-clause-added : goal.returns-else-has_pair-clause-added
returns-else-has_pair-clause-added c = row_passed c.args.wanted.now.portfolio c.args.row.now c.args.keys.now.keys c.has_pair.result c.has_pair.ensures c.if-has_pair.false
