use Rattle.gi_office.proofs.Standing.{stand_if_read}
use Rattle.gi_office.proofs.writing.write.Goals as goal

pub returns-then-is_ahead-clause-stand : goal.returns-then-is_ahead-clause-stand
returns-then-is_ahead-clause-stand g c clean = stand_if_read c.args.n c.args.facts.now _ c.find.result c.requires.next.first (c.find.ensures.has clean)
