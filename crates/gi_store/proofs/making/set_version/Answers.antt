use Rattle.gi_store.proofs.Raising.{kept_version_set, version_set}
use Rattle.gi_store.proofs.making.set_version.Goals as goal

pub returns-clause-set : goal.returns-clause-set
returns-clause-set g c =
    version_set g.S.Store c.args.tx.now.conn.now c.execute.new.self.conn.now c.execute.result c.requires.inside c.requires.alone c.requires.book c.execute.ensures.survives c.execute.ensures.runs

pub returns-clause-kept : goal.returns-clause-kept
returns-clause-kept g c =
    kept_version_set g.S.Store c.args.tx.now.conn.now c.execute.new.self.conn.now c.execute.result c.requires.inside c.execute.ensures.runs
