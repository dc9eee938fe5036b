use Rattle.std.proofs.Common.{◌∙◌, ap}
use Rattle.std.specs.BTreeSet.{insert_key}
use Rattle.gi_pairs.specs.Key.{key_cmp}
use Rattle.gi_page.proofs.KeyLemmas.{row_added}
use Rattle.gi_page.proofs.keys.add_row.Goals as goal

pub returns-clause-added : goal.returns-clause-added
returns-clause-added c = c.in_ok-insert.ensures.keys ∙ ap (insert_key key_cmp c.args.keys.now.keys) c.key.ensures ∙ row_added c.args.row.now c.args.keys.now.keys
