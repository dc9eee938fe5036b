use Rattle.std.proofs.Common.{◌≡◌, take}
use Rattle.gi_audit.specs.JsonAudit.{cycle_objects}
use Rattle.gi_audit.specs.Verdict.{any_agrees, first_difference}
use Rattle.gi_audit.proofs.json_audit.objects.Given as goal

abbrev pub invariant-loop-id : goal.invariant-loop-id
invariant-loop-id l = record {
  text : l.text.items ≡ cycle_objects l.initiating l.matching (take l.id-index l.ids);
  first : l.first ≡ first_difference l.initiating l.matching (take l.id-index l.ids);
  agreed : l.agreed ≡ any_agrees l.initiating l.matching (take l.id-index l.ids);
}
