-- The audit of two desks: a line for each cycle that either has closed, and what they come to.
use Rattle.std.specs.Prelude.{◌≡◌, ℕ, List, ◌++◌, Option, codes}
use Rattle.std.specs.Fmt.{decimal}
use Rattle.std.specs.List.{flat_map}
use Rattle.gi_day.specs.Day.{day_text}
use Rattle.gi_pairs.specs.declared.cycle_id.CycleId.{CycleId}
use Rattle.gi_desk.specs.Machine.{DeskState}
use Rattle.gi_text.specs.Columns.{right_in}
use Rattle.gi_audit.specs.Cycles.{AreClosedAtEither}
use Rattle.gi_audit.specs.Finding.{finding}
use Rattle.gi_audit.specs.FindingText.{finding_text}
use Rattle.gi_audit.specs.Place.{any_place_text, place_found}
use Rattle.gi_audit.specs.Verdict.{verdict_on}
use Rattle.gi_audit.specs.declared.finding.Finding.{Finding}
use Rattle.gi_audit.specs.declared.place.Place.{Place}
use Rattle.gi_audit.specs.declared.verdict.Verdict.{Verdict}
use Rattle.gi_audit.specs.declared.verdict.Verdict.TheVariants as told

-- `2026-01-15 35 agreed IM 17 MI 0`, and where tables differ, the place
abbrev pub line_of : CycleId → Finding → Option Place → List ℕ
line_of id found place =
    day_text id.day ++ (codes " " ++ (right_in 2 id.cycle ++ (codes " " ++ (finding_text found ++ (any_place_text place ++ codes "\n")))))

abbrev pub cycle_line : DeskState → DeskState → CycleId → List ℕ
cycle_line initiating matching id =
    let found = finding initiating matching id in line_of id found (place_found found initiating matching id)

abbrev pub cycle_lines : DeskState → DeskState → List CycleId → List ℕ
cycle_lines initiating matching ids = flat_map (cycle_line initiating matching) ids

-- `agreed`, `open`, `empty`, or `differs at 2026-01-15 35`
abbrev pub last_line : Verdict → List ℕ
last_line told.Agreed = codes "agreed\n"
last_line told.Open = codes "open\n"
last_line told.Empty = codes "empty\n"
last_line (told.Differs id) = codes "differs at " ++ (day_text id.day ++ (codes " " ++ (decimal id.cycle ++ codes "\n")))

-- This text and this verdict are those of the two desks: a line for each cycle that either has closed, by gas day and
-- number, and a last one, the verdict of these cycles.
pub record IsAudit (initiating matching : DeskState) (text : List ℕ) (verdict : Verdict) : Type 0 where
  pub ids : List CycleId
  pub closed : AreClosedAtEither initiating matching ids
  pub written : text ≡ cycle_lines initiating matching ids ++ last_line verdict
  pub is_verdict : verdict ≡ verdict_on initiating matching ids
