use Rattle.gi_office.proofs.Standing.{answered_batch, rows_either, stand_if_saved}
use Rattle.sqlite.specs.Held.{state}
use Rattle.gi_office.proofs.writing.save.Goals as goal

pub returns-clause-next : goal.returns-clause-next
returns-clause-next g c = answered_batch c.args.n c.args.facts.now c.args.book.now.loaded c.save_batch.result c.requires.some c.requires.few c.save_batch.ensures.answer

pub returns-clause-stand : goal.returns-clause-stand
returns-clause-stand g c clean = stand_if_saved c.args.n c.args.facts.now _ _ c.save_batch.result (c.batch_round_trip.ensures c.args.facts.now c.requires.writable c.requires.some c.requires.few) (c.save_batch.ensures.saved clean)

pub returns-clause-writes : goal.returns-clause-writes
returns-clause-writes g c clean = record {
  rows = rows_either c.save_batch.result c.args.book.now.head c.args.n c.args.facts.now (state g.S.Store c.args.book.now.connection) (state g.S.Store c.save_batch.new.self.connection)
      (c.save_batch.ensures.saved clean) (c.save_batch.ensures.kept clean);
  crash = c.save_batch.ensures.crash clean;
}
