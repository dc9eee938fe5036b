-- A schedule as CSV: a header line, and a line for each entry.
use Rattle.std.specs.Prelude.{◌≡◌, ℕ, List, [], ◌∷◌, Option, Some, None, codes}
use Rattle.std.specs.Fmt.{decimal, signed_decimal}
use Rattle.gi_day.specs.Day.{day_text}
use Rattle.gi_pairs.specs.declared.side.Side.{Side}
use Rattle.gi_desk.specs.Machine.{DeskState}
use Rattle.gi_exports.specs.Csv.{csv_text}
use Rattle.gi_schedule.specs.Lines.{IsSchedule, flow_text, initiating_of, matching_of}
use Rattle.gi_schedule.specs.declared.schedule_line.ScheduleLine.{ScheduleLine}
use Rattle.gi_schedule.specs.declared.wanted.Wanted.{Wanted}

abbrev pub schedule_header : List (List ℕ)
schedule_header = codes "day" ∷ codes "cycle" ∷ codes "direction" ∷ codes "initiating" ∷ codes "matching" ∷ codes "hour" ∷ codes "quantity" ∷ []

-- nothing stands where there is no number or no code
abbrev pub number_field : Option ℕ → List ℕ
number_field None = []
number_field (Some number) = decimal number

abbrev pub code_field : Option (List ℕ) → List ℕ
code_field None = []
code_field (Some code) = code

-- `2026-01-15,35,IM,A,B,24,7`
abbrev pub line_fields : ScheduleLine → List (List ℕ)
line_fields line =
    day_text line.day ∷ number_field line.cycle ∷ flow_text line.flow ∷ code_field (initiating_of line)
    ∷ code_field (matching_of line) ∷ number_field line.hour ∷ signed_decimal line.quantity ∷ []

pub record IsScheduleCsv (side : Side) (s : DeskState) (wanted : Wanted) (text : List ℕ) : Type 0 where
  pub lines : List ScheduleLine
  pub scheduled : IsSchedule side s wanted lines
  pub written : text ≡ csv_text schedule_header line_fields lines
