-- The audit of two desks as JSON lines: an object for each line of the text, in the same order and with the same numbers.
use Rattle.std.specs.Prelude.{◌≡◌, ℕ, List, ◌++◌}
use Rattle.serde_json.specs.Data.{Data}
use Rattle.gi_pairs.specs.declared.cycle_id.CycleId.{CycleId}
use Rattle.gi_desk.specs.Machine.{DeskState}
use Rattle.gi_exports.specs.Json.{json_lines, line_of}
use Rattle.gi_audit.specs.Cycles.{AreClosedAtEither}
use Rattle.gi_audit.specs.Finding.{finding}
use Rattle.gi_audit.specs.JsonLines.{cycle_data, verdict_data}
use Rattle.gi_audit.specs.Place.{place_found}
use Rattle.gi_audit.specs.Verdict.{verdict_on}
use Rattle.gi_audit.specs.declared.verdict.Verdict.{Verdict}

-- what is found of a cycle, and where tables differ, the place
abbrev pub cycle_object : DeskState → DeskState → CycleId → Data
cycle_object initiating matching id =
    let found = finding initiating matching id in cycle_data id found (place_found found initiating matching id)

abbrev pub cycle_objects : DeskState → DeskState → List CycleId → List ℕ
cycle_objects initiating matching ids = json_lines (cycle_object initiating matching) ids

-- This text and this verdict are those of the two desks: an object for each cycle that either has closed, by gas day and number, and a
-- last one, the verdict of these cycles.
pub record IsJsonAudit (initiating matching : DeskState) (text : List ℕ) (verdict : Verdict) : Type 0 where
  pub ids : List CycleId
  pub closed : AreClosedAtEither initiating matching ids
  pub written : text ≡ cycle_objects initiating matching ids ++ line_of (verdict_data verdict)
  pub is_verdict : verdict ≡ verdict_on initiating matching ids
