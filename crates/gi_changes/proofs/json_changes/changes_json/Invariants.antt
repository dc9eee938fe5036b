use Rattle.std.proofs.Common.{◌≡◌, take}
use Rattle.gi_exports.specs.Json.{json_lines}
use Rattle.gi_changes.specs.Forms.{change_data}
use Rattle.gi_changes.proofs.json_changes.changes_json.Given as goal

abbrev pub invariant-loop-line : goal.invariant-loop-line
invariant-loop-line l = l.text.items ≡ json_lines change_data (take l.line-index l.lines)
