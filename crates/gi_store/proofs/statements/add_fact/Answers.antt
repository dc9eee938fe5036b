use Rattle.std.proofs.Common.{arith}
use Rattle.sqlite.specs.State.{HasCleanDisk}
use Rattle.sqlite.specs.Held.{state}
use Rattle.gi_store.proofs.Meanings.{fact_idle, fact_written, fact_kept, fact_crash}
use Rattle.gi_store.proofs.statements.add_fact.Goals as goal

pub returns-clause-idle : goal.returns-clause-idle
returns-clause-idle g c clean =
    let old = state g.S.Store c.args.connection.now in
    let new = state g.S.Store c.execute.new.self in
    let early : HasCleanDisk old = omega (arith, c.execute.ensures.survives.clean) in
    fact_idle old new c.args.n c.args.body.now (c.requires.idle early) (c.requires.tables early) c.execute.result (rw c.to_sql-number.ensures at (c.execute.ensures.runs clean))

pub returns-clause-written : goal.returns-clause-written
returns-clause-written g c clean =
    let old = state g.S.Store c.args.connection.now in
    let new = state g.S.Store c.execute.new.self in
    let early : HasCleanDisk old = omega (arith, c.execute.ensures.survives.clean) in
    fact_written old new c.args.n c.args.body.now (c.requires.idle early) (c.requires.tables early) c.execute.result (rw c.to_sql-number.ensures at (c.execute.ensures.runs clean))

pub returns-clause-kept : goal.returns-clause-kept
returns-clause-kept g c clean =
    let old = state g.S.Store c.args.connection.now in
    let new = state g.S.Store c.execute.new.self in
    let early : HasCleanDisk old = omega (arith, c.execute.ensures.survives.clean) in
    fact_kept old new c.args.n c.args.body.now (c.requires.idle early) (c.requires.tables early) c.execute.result (rw c.to_sql-number.ensures at (c.execute.ensures.runs clean))

pub returns-clause-crash : goal.returns-clause-crash
returns-clause-crash g c clean =
    let old = state g.S.Store c.args.connection.now in
    let new = state g.S.Store c.execute.new.self in
    let early : HasCleanDisk old = omega (arith, c.execute.ensures.survives.clean) in
    fact_crash old new c.args.n c.args.body.now (c.requires.idle early) (c.requires.tables early) (rw c.to_sql-number.ensures at c.execute.ensures.survives) clean
