use Rattle.std.proofs.Common.{◌≡◌, take}
use Rattle.gi_exports.specs.Json.{hour_data, json_lines}
use Rattle.gi_exports.proofs.json_reports.hours_json.Given as goal

abbrev pub invariant-loop-entry : goal.invariant-loop-entry
invariant-loop-entry l = l.text.items ≡ json_lines hour_data (take l.entry-index l.hours)
