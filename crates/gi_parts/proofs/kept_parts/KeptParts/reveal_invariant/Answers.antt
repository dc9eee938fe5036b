use Rattle.std.proofs.Common.{subst}
use Rattle.gi_parts.specs.Parts.{AreKept}
use Rattle.gi_parts.proofs.kept_parts.KeptParts.reveal_invariant.Goals as goal

pub returns : goal.returns
returns c = subst AreKept c.self.view_is c.self.invariant
