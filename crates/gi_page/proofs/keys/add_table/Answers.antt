use Rattle.std.proofs.Common.{◌∙◌, ap, sym}
use Rattle.std.specs.Prelude.{None}
use Rattle.std.specs.Option.{option_copied}
use Rattle.gi_schedule.specs.Keys.{keys_if, with_each}
use Rattle.gi_schedule.proofs.KeyLemmas.{with_none}
use Rattle.gi_page.proofs.keys.add_table.Goals as goal

pub returns-in-None-clause-added : goal.returns-in-None-clause-added
returns-in-None-clause-added c =
    sym (with_none c.args.keys.now.keys) ∙ ap (λ o. with_each c.args.keys.now.keys (keys_if None (option_copied o))) (sym c.in-None.is)
