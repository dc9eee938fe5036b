use Rattle.std.proofs.Common.{◌≡◌, OnOk, OnErr, subst, rules}
use Rattle.sqlite.specs.State.{HasCleanDisk, Survives}
use Rattle.sqlite.specs.Held.{state}
use Rattle.gi_store.specs.Keeping.{IsMade, KeepsCommitted, AddsName, MayLeave}
use Rattle.gi_store.proofs.FirstBook.{is_written, keeps_or_makes, kept_book, made_book}
use Rattle.gi_store.proofs.making.add_owner.Goals as goal

pub returns-clause-made : goal.returns-clause-made
returns-clause-made g c =
    let old = c.args.connection.now in
    let last = c.write_older.new.tx.conn.now in
    let end = c.commit.new.self.0 in
    let Makes = AddsName c.args.name.now in
    let written = is_written g.S.Store Makes old c.transaction-tx.result.conn.now last c.transaction-tx.ensures.begun c.in_ok-write_older.ensures.made c.write_older.ensures.survives in
    let same : end ≡ c.connection-2-1.given.0 = search rules in
    subst (λ h. HasCleanDisk (state g.S.Store h) → OnOk c.commit.result (IsMade Makes (state g.S.Store old) (state g.S.Store h))) same
    (made_book g.S.Store Makes old last end c.commit.result written c.commit.ensures.survives c.commit.ensures.ok)

pub returns-clause-crash : goal.returns-clause-crash
returns-clause-crash g c =
    let old = c.args.connection.now in
    let last = c.write_older.new.tx.conn.now in
    let end = c.commit.new.self.0 in
    let Makes = AddsName c.args.name.now in
    let written = is_written g.S.Store Makes old c.transaction-tx.result.conn.now last c.transaction-tx.ensures.begun c.in_ok-write_older.ensures.made c.write_older.ensures.survives in
    let same : end ≡ c.connection-2-1.given.0 = search rules in
    (subst (λ h. Survives (state g.S.Store old) (state g.S.Store h) (MayLeave Makes (state g.S.Store old).now)) same
    (keeps_or_makes g.S.Store Makes old last end written c.commit.ensures.survives)).crash

pub returns-clause-kept : goal.returns-clause-kept
returns-clause-kept g c =
    let old = c.args.connection.now in
    let last = c.write_older.new.tx.conn.now in
    let end = c.commit.new.self.0 in
    let same : end ≡ c.connection-2-1.given.0 = search rules in
    subst (λ h. HasCleanDisk (state g.S.Store h) → OnErr c.commit.result (KeepsCommitted (state g.S.Store old) (state g.S.Store h))) same
    (kept_book g.S.Store old c.transaction-tx.result.conn.now last end c.commit.result c.transaction-tx.ensures.begun (λ clean. (c.in_ok-write_older.ensures.made clean).0) c.write_older.ensures.kept c.commit.ensures.survives c.commit.ensures.err)
