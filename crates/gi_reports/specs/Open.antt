-- What stays open at a desk: its closed cycles that are not confirmed.
use Rattle.std.specs.Prelude.{◌≡◌, ℕ, List, ◌++◌, filter, Bool, is_none, codes}
use Rattle.std.specs.List.{flat_map}
use Rattle.gi_day.specs.Day.{day_text}
use Rattle.gi_pairs.specs.declared.cycle_id.CycleId.{CycleId}
use Rattle.gi_pairs.specs.declared.side.Side.{Side}
use Rattle.gi_desk.specs.History.{state_of}
use Rattle.gi_desk.specs.Machine.{DeskState}
use Rattle.gi_desk.specs.Queries.{confirmed, stage_of}
use Rattle.gi_desk.specs.declared.stage_name.StageName.{StageName}
use Rattle.gi_desk.specs.declared.stage_name.StageName.TheVariants.{Collecting, Frozen, Matched}
use Rattle.gi_text.specs.Columns.{right_in}
use Rattle.gi_reports.specs.Cycles.{AreClosedCycles}

-- `unsaved` where a closed cycle has met the peer's table, else `frozen`
abbrev pub open_word : StageName → List ℕ
open_word Collecting = codes "frozen"
open_word Frozen = codes "frozen"
open_word Matched = codes "unsaved"

-- `2026-01-15 35 frozen`
abbrev pub open_line : CycleId → StageName → List ℕ
open_line id stage =
    day_text id.day ++ (codes " " ++ (right_in 2 id.cycle ++ (codes " " ++ (open_word stage ++ codes "\n"))))

abbrev pub is_open : Side → DeskState → CycleId → Bool
is_open side s id = is_none (confirmed side s id)

-- the lines of those cycles that are not confirmed
abbrev pub open_lines : Side → DeskState → List CycleId → List ℕ
open_lines side s ids = flat_map (λ id. open_line id (stage_of (state_of side s.facts id))) (filter (is_open side s) ids)

-- the report: a line for each closed cycle that is not confirmed, by gas day and number
pub record IsOpenReport (side : Side) (s : DeskState) (text : List ℕ) : Type 0 where
  pub ids : List CycleId
  pub closed : AreClosedCycles s.facts ids
  pub written : text ≡ open_lines side s ids
