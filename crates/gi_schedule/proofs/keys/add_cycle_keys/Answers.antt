use Rattle.std.proofs.Common.{◌∙◌, ap, sym}
use Rattle.gi_schedule.specs.Keys.{keys_if, with_each}
use Rattle.gi_schedule.proofs.KeyLemmas.{with_none}
use Rattle.gi_schedule.proofs.keys.add_cycle_keys.Goals as goal

pub returns-in-None-clause-added : goal.returns-in-None-clause-added
returns-in-None-clause-added g c =
    sym (with_none c.args.keys.now.keys) ∙ ap (λ o. with_each c.args.keys.now.keys (keys_if c.args.wanted.now.portfolio o)) c.in-None.ensures
