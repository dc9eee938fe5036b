use Rattle.std.specs.Prelude.{None}
use Rattle.std.specs.Option.{option_copied}
use Rattle.gi_desk.specs.Queries.{confirmed, frozen}
use Rattle.gi_schedule.specs.Keys.{keys_if}
use Rattle.gi_page.proofs.KeyLemmas.{both_added}
use Rattle.gi_page.proofs.keys.add_cycle.Goals as goal

pub returns-clause-added : goal.returns-clause-added
returns-clause-added g c =
    both_added c.args.keys.now.keys c.add_table.new.keys.keys c.add_table-2.new.keys.keys (option_copied c.frozen.result) (frozen g.R.Role.SIDE c.args.desk.now.facts c.args.id.now)
    (option_copied c.confirmed.result) (confirmed g.R.Role.SIDE c.args.desk.now c.args.id.now) c.frozen.ensures c.confirmed.ensures c.in_ok-add_table.ensures.added c.in_ok-add_table-2.ensures.added
