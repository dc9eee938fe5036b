use Rattle.std.proofs.Common.{◌∙◌, All, List, subst, sym}
use Rattle.gi_parts.specs.Gathering.{IsGathered}
use Rattle.gi_parts.specs.Parts.{IsSent, parts_of}
use Rattle.gi_parts.specs.declared.kept_parts.KeptPart.{KeptPart}
use Rattle.gi_parts.proofs.kept_parts.KeptParts.gather.Goals as goal

pub gather-requires : goal.gather-requires
gather-requires c = record {
  readable = c.requires;
  kept = subst (λ (kept : List KeptPart). All IsSent (parts_of c.args.id.now kept)) (sym c.deref.ensures.value) (c.self.invariant c.args.id.now).sent;
}

pub returns : goal.returns
returns c = subst (λ (kept : List KeptPart). IsGathered c.args.id.now kept c.args.part c.gather.result) (c.deref.ensures.value ∙ c.self.view_is) c.gather.ensures
