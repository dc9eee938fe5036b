use Rattle.std.proofs.Common.{subst, arith}
use Rattle.gi_store.specs.Facts.{Covers}
use Rattle.gi_store.proofs.reading.append_row.Goals as goal

pub returns-clause-appended : goal.returns-clause-appended
returns-clause-appended c = (
  c.in_ok-batch.batch.items,
  subst (λ k. Covers k c.args.row.now c.in_ok-batch.batch.items) (omega arith) c.in_ok-batch.ensures.facts,
  c.in_ok-append.ensures.items,
)
