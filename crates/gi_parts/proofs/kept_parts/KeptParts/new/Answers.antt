use Rattle.std.proofs.Common.{subst, sym}
use Rattle.gi_parts.specs.Parts.{AreKept}
use Rattle.gi_parts.proofs.Keeping.{kept-none}
use Rattle.gi_parts.proofs.kept_parts.KeptParts.new.Goals as goal

pub invariant_of-result : goal.invariant_of-result
invariant_of-result c = subst AreKept (sym c.new.ensures.items) kept-none
