use Rattle.gi_store.proofs.FirstBook.{kept_commit, survives_both, written_book}
use Rattle.gi_store.proofs.making.write_book.Goals as goal

pub returns-clause-made : goal.returns-clause-made
returns-clause-made g c =
    written_book g.S.Store c.args.tx.now.conn.now c.execute.new.self.conn.now c.execute-2.new.self.conn.now c.execute-3.new.self.conn.now
    c.in_ok-execute.field-0 c.in_ok-execute-2.field-0 c.execute-3.result c.requires.inside c.requires.free
    c.execute-2.ensures.survives c.execute-3.ensures.survives
    c.in_ok-execute.ensures.runs c.in_ok-execute-2.ensures.runs c.execute-3.ensures.runs

pub returns-clause-kept : goal.returns-clause-kept
returns-clause-kept g c =
    kept_commit g.S.Store c.args.tx.now.conn.now c.execute.new.self.conn.now c.execute-2.new.self.conn.now c.execute-3.new.self.conn.now
    c.in_ok-execute.field-0 c.in_ok-execute-2.field-0 c.execute-3.result c.requires.inside
    c.execute-2.ensures.survives c.execute-3.ensures.survives
    c.in_ok-execute.ensures.runs c.in_ok-execute-2.ensures.runs c.execute-3.ensures.runs

pub returns-clause-survives : goal.returns-clause-survives
returns-clause-survives g c =
    survives_both _ _ _ (survives_both _ _ _ c.execute.ensures.survives c.execute-2.ensures.survives) c.execute-3.ensures.survives

pub returns-in_err-execute-2-clause-survives : goal.returns-in_err-execute-2-clause-survives
returns-in_err-execute-2-clause-survives g c =
    survives_both _ _ _ c.execute.ensures.survives c.execute-2.ensures.survives
