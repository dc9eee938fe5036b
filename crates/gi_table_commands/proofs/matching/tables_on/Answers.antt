use Rattle.std.proofs.Common.{inr}
use Rattle.gi_table_commands.proofs.matching.tables_on.Goals as goal

pub returns-in-Err-own-clause-refused : goal.returns-in-Err-own-clause-refused
returns-in-Err-own-clause-refused g c = inr (
  (c.in-Ok.order, rw c.in-Ok.is at (c.both_read-order.ensures.order.spelled)),
  rw c.in-Err-own.is at (c.both_read-order.ensures.own.refused),
)
