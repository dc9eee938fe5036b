use Rattle.std.proofs.Common.{IsTrue, rules}
use Rattle.sqlite.specs.Held.{state}
use Rattle.gi_store.specs.Tables.{HasTables}
use Rattle.gi_store.proofs.Readings.{version_read, version_missed}
use Rattle.gi_store.proofs.version.read_version.Goals as goal

pub returns-clause-version : goal.returns-clause-version
returns-clause-version g c clean =
    let old = c.args.connection.now in
    let new = c.book_rows.new.connection in
    let up : IsTrue (state g.S.Store new).is_open = c.in_ok-rows.ensures.opened clean in
    let has : HasTables old.schema = search rules in
    version_read g.S.Store old new c.in_ok-rows.rows.items c.version_in.result (c.book_rows.ensures.kept clean) up has (c.in_ok-rows.ensures.rows clean) (search rules)

pub returns-clause-refused : goal.returns-clause-refused
returns-clause-refused g c clean =
    let old = c.args.connection.now in
    let new = c.book_rows.new.connection in
    let up : IsTrue (state g.S.Store new).is_open = c.in_ok-rows.ensures.opened clean in
    version_missed g.S.Store old new c.in_ok-rows.rows.items c.version_in.result (c.book_rows.ensures.kept clean) up (c.in_ok-rows.ensures.rows clean) (search rules)
