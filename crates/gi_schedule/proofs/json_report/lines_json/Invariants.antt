use Rattle.std.proofs.Common.{◌≡◌, take}
use Rattle.gi_exports.specs.Json.{json_lines}
use Rattle.gi_schedule.specs.Json.{line_data}
use Rattle.gi_schedule.proofs.json_report.lines_json.Given as goal

abbrev pub invariant-loop-line : goal.invariant-loop-line
invariant-loop-line l = l.text.items ≡ json_lines line_data (take l.line-index l.lines)
