use Rattle.std.proofs.Common.{◌∙◌, ap, subst, sym}
use Rattle.gi_parts.specs.Parts.{AreKept, count_of}
use Rattle.gi_parts.proofs.kept_parts.KeptParts.count.Goals as goal

pub count_in-requires : goal.count_in-requires
count_in-requires c = subst AreKept (sym c.deref.ensures.value) c.self.invariant

pub returns-clause-value : goal.returns-clause-value
returns-clause-value c = c.count_in.ensures.value ∙ ap (count_of c.args.id.now) (c.deref.ensures.value ∙ c.self.view_is)
