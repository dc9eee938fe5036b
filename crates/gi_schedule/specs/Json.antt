-- A schedule as JSON lines: an object for each entry, compact, its keys in byte order.
use Rattle.std.specs.Prelude.{◌≡◌, ℕ, ℤ, pos, negsuc, List, Option, Some, None, codes}
use Rattle.serde_json.specs.Data.{Data, negative, null, number, string, object, no_members, member}
use Rattle.gi_day.specs.Day.{day_text}
use Rattle.gi_pairs.specs.declared.side.Side.{Side}
use Rattle.gi_messages.specs.Writing.{whole}
use Rattle.gi_desk.specs.Machine.{DeskState}
use Rattle.gi_exports.specs.Json.{json_lines, number_or_null}
use Rattle.gi_schedule.specs.Lines.{IsSchedule, flow_text, initiating_of, matching_of}
use Rattle.gi_schedule.specs.declared.schedule_line.ScheduleLine.{ScheduleLine}
use Rattle.gi_schedule.specs.declared.wanted.Wanted.{Wanted}

-- null stands where there is no code
abbrev pub code_data : Option (List ℕ) → Data
code_data None = null
code_data (Some code) = string code

abbrev pub signed_data : ℤ → Data
signed_data (pos n) = whole n
signed_data (negsuc n) = number (negative (negsuc n))

-- `{"cycle":35,"day":"2026-01-15","direction":"IM","hour":24,"initiating":"A","matching":"B","quantity":7}`
unfoldable pub line_data : ScheduleLine → Data
line_data line =
    object (member (codes "cycle") (number_or_null line.cycle) (member (codes "day") (string (day_text line.day)) (member (codes "direction") (string (flow_text line.flow))
    (member (codes "hour") (number_or_null line.hour) (member (codes "initiating") (code_data (initiating_of line))
    (member (codes "matching") (code_data (matching_of line)) (member (codes "quantity") (signed_data line.quantity) no_members)))))))

pub record IsScheduleJson (side : Side) (s : DeskState) (wanted : Wanted) (text : List ℕ) : Type 0 where
  pub lines : List ScheduleLine
  pub scheduled : IsSchedule side s wanted lines
  pub written : text ≡ json_lines line_data lines
