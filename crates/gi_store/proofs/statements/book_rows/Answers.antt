use Rattle.std.proofs.Common.{[], arith}
use Rattle.sqlite.specs.State.{HasCleanDisk}
use Rattle.sqlite.specs.Held.{state}
use Rattle.gi_store.proofs.Texts.{read_version}
use Rattle.gi_store.proofs.Failures.{queried, query_opened, undone_idle, undone_keeps}
use Rattle.gi_store.proofs.Readings.{version_answer, plain_version, adds_nothing}
use Rattle.gi_store.proofs.Causes.{endures, version_failed}
use Rattle.gi_store.proofs.statements.book_rows.Goals as goal

pub returns-clause-rows : goal.returns-clause-rows
returns-clause-rows g c clean =
    let old = state g.S.Store c.args.connection.now in
    let early : HasCleanDisk old = omega (arith, c.query_all.ensures.survives.clean) in
    version_answer old (state g.S.Store c.query_all.new.self) (λ rows. rows.items) c.query_all.result (c.requires.tables early) (c.query_all.ensures.ok clean)

pub returns-clause-opened : goal.returns-clause-opened
returns-clause-opened g c clean =
    let old = state g.S.Store c.args.connection.now in
    let early : HasCleanDisk old = omega (arith, c.query_all.ensures.survives.clean) in
    query_opened old (state g.S.Store c.query_all.new.self) read_version [] (λ rows. rows.items) c.query_all.result (plain_version old (c.requires.tables early)) (c.query_all.ensures.ok clean)

pub returns-clause-idle : goal.returns-clause-idle
returns-clause-idle g c clean =
    let old = state g.S.Store c.args.connection.now in
    let new = state g.S.Store c.query_all.new.self in
    let early : HasCleanDisk old = omega (arith, c.query_all.ensures.survives.clean) in
    undone_idle old new (c.requires.idle early)
    (queried old new read_version [] (λ rows. rows.items) c.query_all.result (plain_version old (c.requires.tables early)) (c.query_all.ensures.ok clean) (c.query_all.ensures.err clean))

pub returns-clause-kept : goal.returns-clause-kept
returns-clause-kept g c clean =
    let old = state g.S.Store c.args.connection.now in
    let new = state g.S.Store c.query_all.new.self in
    let early : HasCleanDisk old = omega (arith, c.query_all.ensures.survives.clean) in
    undone_keeps old new (c.requires.idle early)
    (queried old new read_version [] (λ rows. rows.items) c.query_all.result (plain_version old (c.requires.tables early)) (c.query_all.ensures.ok clean) (c.query_all.ensures.err clean))

pub returns-clause-crash : goal.returns-clause-crash
returns-clause-crash g c clean =
    let old = state g.S.Store c.args.connection.now in
    let early : HasCleanDisk old = omega (arith, c.query_all.ensures.survives.clean) in
    adds_nothing read_version [] old (state g.S.Store c.query_all.new.self) (plain_version old (c.requires.tables early)) c.query_all.ensures.survives clean

pub returns-clause-endures : goal.returns-clause-endures
returns-clause-endures g c clean = endures _ _ _ c.query_all.ensures.survives clean

pub returns-clause-failed : goal.returns-clause-failed
returns-clause-failed g c clean =
    let old = state g.S.Store c.args.connection.now in
    let early : HasCleanDisk old = omega (arith, c.query_all.ensures.survives.clean) in
    version_failed old (state g.S.Store c.query_all.new.self) c.query_all.result (c.requires.tables early) (c.query_all.ensures.err clean)
