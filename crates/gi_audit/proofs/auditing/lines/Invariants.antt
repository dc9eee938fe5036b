use Rattle.std.proofs.Common.{◌≡◌, string_bytes, take}
use Rattle.gi_audit.specs.Audit.{cycle_lines}
use Rattle.gi_audit.specs.Verdict.{any_agrees, first_difference}
use Rattle.gi_audit.proofs.auditing.lines.Given as goal

abbrev pub invariant-loop-id : goal.invariant-loop-id
invariant-loop-id l = record {
  text : string_bytes l.text ≡ cycle_lines l.initiating l.matching (take l.id-index l.ids);
  first : l.first ≡ first_difference l.initiating l.matching (take l.id-index l.ids);
  agreed : l.agreed ≡ any_agrees l.initiating l.matching (take l.id-index l.ids);
}
