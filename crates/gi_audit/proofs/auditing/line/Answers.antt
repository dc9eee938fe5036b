use Rattle.std.proofs.Common.{rules}
use Rattle.gi_audit.proofs.auditing.line.Goals as goal

pub returns-in-None : goal.returns-in-None
returns-in-None c = rw c.in-None.is (search rules)
