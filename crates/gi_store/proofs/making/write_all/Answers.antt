use Rattle.std.proofs.Common.{arith}
use Rattle.sqlite.specs.State.{HasCleanDisk}
use Rattle.sqlite.specs.Held.{state}
use Rattle.sqlite.proofs.InsideLemmas.{keeps_then}
use Rattle.gi_store.proofs.FirstBook.{survives_both, written_all}
use Rattle.gi_store.proofs.Owners.{takes_still}
use Rattle.gi_store.proofs.making.write_all.Goals as goal

pub write_owner-requires : goal.write_owner-requires
write_owner-requires g c = record {
  takes = λ clean.
      let made = c.in_ok-write_book.ensures.made clean in
      (made.0, takes_still (state g.S.Store c.args.tx.now.conn.now).now (state g.S.Store c.write_book.new.tx.conn.now).now c.requires.free made.1);
}

pub returns-clause-made : goal.returns-clause-made
returns-clause-made g c =
    written_all g.S.Store c.args.tx.now.conn.now c.write_book.new.tx.conn.now c.write_owner.new.tx.conn.now c.args.name.now
    c.write_owner.result c.requires.free c.write_owner.ensures.survives c.in_ok-write_book.ensures.made c.write_owner.ensures.made

pub returns-clause-kept : goal.returns-clause-kept
returns-clause-kept g c clean =
    let mid = state g.S.Store c.write_book.new.tx.conn.now in
    let early : HasCleanDisk mid = omega (arith, c.write_owner.ensures.survives.clean) in
    keeps_then _ mid _ (c.write_book.ensures.kept early) (c.write_owner.ensures.kept clean)

pub returns-clause-survives : goal.returns-clause-survives
returns-clause-survives g c =
    survives_both _ _ _ c.write_book.ensures.survives c.write_owner.ensures.survives
