use Rattle.gi_store.proofs.FirstBook.{kept_name, survives_both, written_owner}
use Rattle.gi_store.proofs.making.write_owner.Goals as goal

pub returns-clause-made : goal.returns-clause-made
returns-clause-made g c =
    written_owner g.S.Store c.args.tx.now.conn.now c.execute.new.self.conn.now c.execute-2.new.self.conn.now c.args.name.now
    c.in_ok-execute.field-0 c.execute-2.result c.requires.takes c.execute.ensures.survives c.execute-2.ensures.survives
    c.in_ok-execute.ensures.runs (rw (c.to_sql-number.ensures, c.to_sql-text.ensures) at c.execute-2.ensures.runs)

pub returns-clause-kept : goal.returns-clause-kept
returns-clause-kept g c =
    kept_name g.S.Store c.args.tx.now.conn.now c.execute.new.self.conn.now c.execute-2.new.self.conn.now c.args.name.now
    c.in_ok-execute.field-0 c.execute-2.result c.requires.takes c.execute.ensures.survives c.execute-2.ensures.survives
    c.in_ok-execute.ensures.runs (rw (c.to_sql-number.ensures, c.to_sql-text.ensures) at c.execute-2.ensures.runs)

pub returns-clause-survives : goal.returns-clause-survives
returns-clause-survives g c =
    survives_both _ _ _ c.execute.ensures.survives c.execute-2.ensures.survives
