use Rattle.gi_store.proofs.closing.closed.Goals as goal

pub returns-in_ok-files-in-Ok-clause-copied : goal.returns-in_ok-files-in-Ok-clause-copied
returns-in_ok-files-in-Ok-clause-copied g c = rw c.in-Ok.is (c.in_ok-files-in-Ok.files, c.in_ok-files-in-Ok.ensures.copied)
