use Rattle.std.proofs.Common.{[], arith}
use Rattle.sqlite.specs.State.{HasCleanDisk}
use Rattle.sqlite.specs.Held.{state}
use Rattle.gi_store.proofs.Texts.{read_name}
use Rattle.gi_store.proofs.Failures.{queried, query_opened, undone_idle, undone_keeps}
use Rattle.gi_store.proofs.Readings.{name_answer, plain_name, adds_nothing}
use Rattle.gi_store.proofs.Causes.{endures, name_failed}
use Rattle.gi_store.proofs.statements.owner_rows.Goals as goal

pub returns-clause-rows : goal.returns-clause-rows
returns-clause-rows g c clean =
    let old = state g.S.Store c.args.connection.now in
    name_answer old (state g.S.Store c.query_all.new.self) (λ rows. rows.items) c.query_all.result c.requires.table (c.query_all.ensures.ok clean)

pub returns-clause-opened : goal.returns-clause-opened
returns-clause-opened g c clean =
    let old = state g.S.Store c.args.connection.now in
    query_opened old (state g.S.Store c.query_all.new.self) read_name [] (λ rows. rows.items) c.query_all.result (plain_name old c.requires.table) (c.query_all.ensures.ok clean)

pub returns-clause-idle : goal.returns-clause-idle
returns-clause-idle g c clean =
    let old = state g.S.Store c.args.connection.now in
    let new = state g.S.Store c.query_all.new.self in
    let early : HasCleanDisk old = omega (arith, c.query_all.ensures.survives.clean) in
    undone_idle old new (c.requires.idle early)
    (queried old new read_name [] (λ rows. rows.items) c.query_all.result (plain_name old c.requires.table) (c.query_all.ensures.ok clean) (c.query_all.ensures.err clean))

pub returns-clause-kept : goal.returns-clause-kept
returns-clause-kept g c clean =
    let old = state g.S.Store c.args.connection.now in
    let new = state g.S.Store c.query_all.new.self in
    let early : HasCleanDisk old = omega (arith, c.query_all.ensures.survives.clean) in
    undone_keeps old new (c.requires.idle early)
    (queried old new read_name [] (λ rows. rows.items) c.query_all.result (plain_name old c.requires.table) (c.query_all.ensures.ok clean) (c.query_all.ensures.err clean))

pub returns-clause-crash : goal.returns-clause-crash
returns-clause-crash g c clean =
    let old = state g.S.Store c.args.connection.now in
    adds_nothing read_name [] old (state g.S.Store c.query_all.new.self) (plain_name old c.requires.table) c.query_all.ensures.survives clean

pub returns-clause-endures : goal.returns-clause-endures
returns-clause-endures g c clean = endures _ _ _ c.query_all.ensures.survives clean

pub returns-clause-failed : goal.returns-clause-failed
returns-clause-failed g c clean =
    let old = state g.S.Store c.args.connection.now in
    name_failed old (state g.S.Store c.query_all.new.self) c.query_all.result c.requires.table (c.query_all.ensures.err clean)
