use Rattle.std.proofs.Common.{IsTrue, rules}
use Rattle.sqlite.specs.Held.{state}
use Rattle.gi_store.specs.Tables.{HasOwnerTable}
use Rattle.gi_store.proofs.Readings.{name_read, name_missed}
use Rattle.gi_store.proofs.owning.read_owner.Goals as goal

pub returns-clause-owner : goal.returns-clause-owner
returns-clause-owner g c clean =
    let old = c.args.connection.now in
    let new = c.owner_rows.new.connection in
    let up : IsTrue (state g.S.Store new).is_open = c.in_ok-rows.ensures.opened clean in
    let has : HasOwnerTable old.schema = search rules in
    name_read g.S.Store old new c.in_ok-rows.rows.items c.owner_in.result (c.owner_rows.ensures.kept clean) up has (c.in_ok-rows.ensures.rows clean) (search rules)

pub returns-clause-refused : goal.returns-clause-refused
returns-clause-refused g c clean =
    let old = c.args.connection.now in
    let new = c.owner_rows.new.connection in
    let up : IsTrue (state g.S.Store new).is_open = c.in_ok-rows.ensures.opened clean in
    name_missed g.S.Store old new c.in_ok-rows.rows.items c.owner_in.result (c.owner_rows.ensures.kept clean) up (c.in_ok-rows.ensures.rows clean) (search rules)
