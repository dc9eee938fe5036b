use Rattle.std.proofs.Common.{arith}
use Rattle.std.proofs.lemmas.Bool.Decides.{nat_tests}
use Rattle.gi_parts.proofs.gathering.gather.Goals as goal

pub gather_parts-requires-clause-several : goal.gather_parts-requires-clause-several
gather_parts-requires-clause-several c = grind (arith, nat_tests)
