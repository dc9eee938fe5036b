-- What a desk has confirmed, hour by hour.
use Rattle.std.specs.Prelude.{◌≡◌, ℕ, List, [], ◌++◌, Option, Some, None, codes}
use Rattle.std.specs.List.{enumerate_from, flat_map}
use Rattle.gi_day.specs.Day.{day_text}
use Rattle.gi_pairs.specs.Direction.{direction_text}
use Rattle.gi_pairs.specs.Table.{TableContents}
use Rattle.gi_pairs.specs.declared.cycle_id.CycleId.{CycleId}
use Rattle.gi_pairs.specs.declared.row.Row.{Row}
use Rattle.gi_pairs.specs.declared.side.Side.{Side}
use Rattle.gi_desk.specs.Machine.{DeskState}
use Rattle.gi_desk.specs.Queries.{confirmed}
use Rattle.gi_reports.specs.Columns.{left_in}
use Rattle.gi_text.specs.Columns.{right_in}
use Rattle.gi_reports.specs.Cycles.{AreClosedCycles}

-- what a row is for: `IM A                B               `
abbrev pub row_text : Row → List ℕ
row_text row =
    direction_text row.direction ++ (codes " " ++ (left_in 16 row.pair.initiating ++ (codes " " ++ left_in 16 row.pair.matching)))

-- the quantity of an hour:
-- `2026-01-15 35 IM A                B                24            7`
abbrev pub confirmed_line : CycleId → Row → ℕ → ℕ → List ℕ
confirmed_line id row hour quantity =
    day_text id.day ++ (codes " " ++ (right_in 2 id.cycle ++ (codes " " ++ (row_text row ++ (codes " " ++ (right_in 2 hour
    ++ (codes " " ++ (right_in 12 quantity ++ codes "\n"))))))))

-- each hour of a row, from the table's first hour on
abbrev pub row_lines : CycleId → ℕ → Row → List ℕ
row_lines id first row = flat_map (λ counted. confirmed_line id row counted.0 counted.1) (enumerate_from first row.hours)

-- each row of a table, in table order
abbrev pub table_lines : CycleId → TableContents → List ℕ
table_lines id table = flat_map (row_lines id table.first) table.rows

abbrev pub lines_if : CycleId → Option TableContents → List ℕ
lines_if id None = []
lines_if id (Some table) = table_lines id table

-- the lines of those cycles that are confirmed
abbrev pub confirmed_lines : Side → DeskState → List CycleId → List ℕ
confirmed_lines side s ids = flat_map (λ id. lines_if id (confirmed side s id)) ids

-- the report: each confirmed cycle, by gas day and number
pub record IsConfirmedReport (side : Side) (s : DeskState) (text : List ℕ) : Type 0 where
  pub ids : List CycleId
  pub closed : AreClosedCycles s.facts ids
  pub written : text ≡ confirmed_lines side s ids
