use Rattle.std.proofs.Common.{◌≡◌, take}
use Rattle.gi_exports.specs.Json.{cycle_data, json_lines}
use Rattle.gi_exports.proofs.json_reports.cycles_json.Given as goal

abbrev pub invariant-loop-entry : goal.invariant-loop-entry
invariant-loop-entry l = l.text.items ≡ json_lines cycle_data (take l.entry-index l.cycles)
