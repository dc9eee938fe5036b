use Rattle.std.proofs.Common.{sym, subst, arith}
use Rattle.sqlite.specs.State.{HasCleanDisk}
use Rattle.sqlite.specs.Held.{state}
use Rattle.sqlite.proofs.InsideLemmas.{keeps_then}
use Rattle.gi_store.specs.Tables.{TakesOwner}
use Rattle.gi_store.proofs.FirstBook.{survives_both, written_older}
use Rattle.gi_store.proofs.making.write_older.Goals as goal

pub write_owner-requires : goal.write_owner-requires
write_owner-requires g c = record {
  takes = λ clean.
      let set = c.in_ok-set_version.ensures.set clean in
      (set.0, subst TakesOwner (sym set.1.schema) c.requires.takes);
}

pub returns-clause-made : goal.returns-clause-made
returns-clause-made g c =
    written_older g.S.Store c.args.tx.now.conn.now c.set_version.new.tx.conn.now c.write_owner.new.tx.conn.now c.args.name.now
    c.write_owner.result c.requires.takes c.requires.book c.set_version.ensures.survives c.write_owner.ensures.survives c.in_ok-set_version.ensures.set c.write_owner.ensures.made

pub returns-clause-kept : goal.returns-clause-kept
returns-clause-kept g c clean =
    let mid = state g.S.Store c.set_version.new.tx.conn.now in
    let early : HasCleanDisk mid = omega (arith, c.write_owner.ensures.survives.clean) in
    keeps_then _ mid _ (c.set_version.ensures.kept early) (c.write_owner.ensures.kept clean)

pub returns-clause-survives : goal.returns-clause-survives
returns-clause-survives g c =
    survives_both _ _ _ c.set_version.ensures.survives c.write_owner.ensures.survives
