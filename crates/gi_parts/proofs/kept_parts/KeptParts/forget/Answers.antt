use Rattle.std.proofs.Common.{◌∙◌, ap, subst, sym}
use Rattle.gi_parts.specs.Parts.{AreKept, without}
use Rattle.gi_parts.proofs.Keeping.{kept-without}
use Rattle.gi_parts.proofs.kept_parts.KeptParts.forget.Goals as goal

pub invariant_of-self : goal.invariant_of-self
invariant_of-self c = subst AreKept (sym c.forget_in.ensures) (kept-without c.args.id.now c.self.inside.parts.items c.self.invariant)

pub returns : goal.returns
returns c = c.forget_in.ensures ∙ ap (without c.args.id.now) c.self.view_is
