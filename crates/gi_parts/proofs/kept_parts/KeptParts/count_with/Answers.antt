use Rattle.std.proofs.Common.{◌∙◌, List, ap, subst, sym}
use Rattle.gi_parts.specs.Gathering.{CanKeep}
use Rattle.gi_parts.specs.Parts.{AreKept, count_of, with_kept}
use Rattle.gi_parts.specs.declared.kept_parts.KeptPart.{KeptPart}
use Rattle.gi_parts.proofs.kept_parts.KeptParts.count_with.Goals as goal

pub count_with_in-requires : goal.count_with_in-requires
count_with_in-requires c = record {
  kept = subst AreKept (sym c.deref.ensures.value) c.self.invariant;
  part = subst (λ (kept : List KeptPart). CanKeep c.args.id.now kept c.args.part.now) (sym (c.deref.ensures.value ∙ c.self.view_is)) c.requires;
}

pub returns-clause-value : goal.returns-clause-value
returns-clause-value c =
    c.count_with_in.ensures.value ∙ ap (λ (kept : List KeptPart). count_of c.args.id.now (with_kept c.args.id.now c.args.part.now kept)) (c.deref.ensures.value ∙ c.self.view_is)
