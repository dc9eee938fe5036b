-- A schedule in text.
use Rattle.std.specs.Prelude.{◌≡◌, ℕ, List, ◌++◌, codes}
use Rattle.std.specs.Fmt.{signed_decimal}
use Rattle.std.specs.List.{flat_map}
use Rattle.gi_day.specs.Day.{day_text}
use Rattle.gi_pairs.specs.declared.side.Side.{Side}
use Rattle.gi_desk.specs.Machine.{DeskState}
use Rattle.gi_reports.specs.Columns.{left_in}
use Rattle.gi_schedule.specs.Columns.{code_or_all, flow_column, number_column, right_of}
use Rattle.gi_schedule.specs.Lines.{IsSchedule, initiating_of, matching_of}
use Rattle.gi_schedule.specs.declared.schedule_line.ScheduleLine.{ScheduleLine}
use Rattle.gi_schedule.specs.declared.wanted.Wanted.{Wanted}

-- `2026-01-15 35 IM `
abbrev pub front_text : ScheduleLine → List ℕ
front_text line = day_text line.day ++ (codes " " ++ (number_column line.cycle ++ (codes " " ++ flow_column line.flow)))

-- `A                B               `
abbrev pub pair_text : ScheduleLine → List ℕ
pair_text line = left_in 16 (code_or_all (initiating_of line)) ++ (codes " " ++ left_in 16 (code_or_all (matching_of line)))

-- `2026-01-15 35 IM  A                B                24            7`
abbrev pub line_text : ScheduleLine → List ℕ
line_text line =
    front_text line ++ (codes " " ++ (pair_text line ++ (codes " " ++ (number_column line.hour ++ (codes " " ++ (right_of 12 (signed_decimal line.quantity) ++ codes "\n"))))))

abbrev pub lines_text : List ScheduleLine → List ℕ
lines_text lines = flat_map line_text lines

pub record IsScheduleText (side : Side) (s : DeskState) (wanted : Wanted) (text : List ℕ) : Type 0 where
  pub lines : List ScheduleLine
  pub scheduled : IsSchedule side s wanted lines
  pub written : text ≡ lines_text lines
