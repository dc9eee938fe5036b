use Rattle.std.proofs.Common.{◌≡◌, take}
use Rattle.gi_exports.specs.Json.{count_data, json_lines}
use Rattle.gi_exports.proofs.json_reports.refused_json.Given as goal

abbrev pub invariant-loop-code : goal.invariant-loop-code
invariant-loop-code l = l.text.items ≡ json_lines count_data (take l.code-index l.code-items)
