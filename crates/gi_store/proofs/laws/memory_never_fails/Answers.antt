use Rattle.std.proofs.Common.{arith}
use Rattle.gi_store.proofs.laws.memory_never_fails.Goals as goal

pub returns : goal.returns
returns c old new h = omega arith
