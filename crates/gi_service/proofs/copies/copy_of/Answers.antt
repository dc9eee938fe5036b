use Rattle.gi_service.proofs.copies.copy_of.Goals as goal

pub returns-in-Ok-clause-copied : goal.returns-in-Ok-clause-copied
returns-in-Ok-clause-copied g c = c.in-Ok.ensures.copied (c.memory_is_clean.ensures c.save_all.new.book.connection) c.in_ok-book.ensures.none
