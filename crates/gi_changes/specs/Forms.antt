-- The changes of a gas day in text, as CSV and as JSON lines.
use Rattle.std.specs.Prelude.{◌≡◌, ℕ, List, [], ◌∷◌, ◌++◌, codes}
use Rattle.std.specs.Fmt.{decimal, signed_decimal}
use Rattle.std.specs.List.{flat_map}
use Rattle.serde_json.specs.Data.{Data, string, object, no_members, member}
use Rattle.gi_day.specs.Day.{day_text}
use Rattle.gi_pairs.specs.Direction.{direction_text}
use Rattle.gi_pairs.specs.declared.side.Side.{Side}
use Rattle.gi_text.specs.Columns.{right_in}
use Rattle.gi_messages.specs.Writing.{whole}
use Rattle.gi_desk.specs.Machine.{DeskState}
use Rattle.gi_exports.specs.Csv.{csv_text}
use Rattle.gi_exports.specs.Json.{json_lines}
use Rattle.gi_schedule.specs.Columns.{right_of}
use Rattle.gi_schedule.specs.CutForms.{place_text}
use Rattle.gi_schedule.specs.Json.{signed_data}
use Rattle.gi_schedule.specs.declared.wanted.Wanted.{Wanted}
use Rattle.gi_changes.specs.Changes.{AreChanges}
use Rattle.gi_changes.specs.declared.change_line.ChangeLine.{ChangeLine}

-- ---- in text

-- `2026-01-15 35 IM A                B                24           10            7           -3`
abbrev pub change_text : ChangeLine → List ℕ
change_text line =
    place_text line.id line.direction line.pair line.hour ++ (codes " " ++ (right_in 12 line.before ++ (codes " " ++ (right_in 12 line.after
    ++ (codes " " ++ (right_of 12 (signed_decimal line.change) ++ codes "\n"))))))

abbrev pub changes_text : List ChangeLine → List ℕ
changes_text lines = flat_map change_text lines

pub record IsChangeText (side : Side) (s : DeskState) (wanted : Wanted) (text : List ℕ) : Type 0 where
  pub lines : List ChangeLine
  pub changed : AreChanges side s wanted lines
  pub written : text ≡ changes_text lines

-- ---- as CSV

abbrev pub change_header : List (List ℕ)
change_header =
    codes "day" ∷ codes "cycle" ∷ codes "direction" ∷ codes "initiating" ∷ codes "matching" ∷ codes "hour" ∷ codes "before" ∷ codes "after" ∷ codes "change" ∷ []

-- `2026-01-15,35,IM,A,B,24,10,7,-3`
abbrev pub change_fields : ChangeLine → List (List ℕ)
change_fields line =
    day_text line.id.day ∷ decimal line.id.cycle ∷ direction_text line.direction ∷ line.pair.initiating ∷ line.pair.matching ∷ decimal line.hour
    ∷ decimal line.before ∷ decimal line.after ∷ signed_decimal line.change ∷ []

abbrev pub changes_csv : List ChangeLine → List ℕ
changes_csv lines = csv_text change_header change_fields lines

pub record IsChangeCsv (side : Side) (s : DeskState) (wanted : Wanted) (text : List ℕ) : Type 0 where
  pub lines : List ChangeLine
  pub changed : AreChanges side s wanted lines
  pub written : text ≡ changes_csv lines

-- ---- as JSON lines

-- `{"after":7,"before":10,"change":-3,"cycle":35,"day":"2026-01-15","direction":"IM","hour":24,"initiating":"A","matching":"B"}`
unfoldable pub change_data : ChangeLine → Data
change_data line =
    object (member (codes "after") (whole line.after) (member (codes "before") (whole line.before) (member (codes "change") (signed_data line.change)
    (member (codes "cycle") (whole line.id.cycle) (member (codes "day") (string (day_text line.id.day)) (member (codes "direction") (string (direction_text line.direction))
    (member (codes "hour") (whole line.hour) (member (codes "initiating") (string line.pair.initiating) (member (codes "matching") (string line.pair.matching) no_members)))))))))

abbrev pub changes_json : List ChangeLine → List ℕ
changes_json lines = json_lines change_data lines

pub record IsChangeJson (side : Side) (s : DeskState) (wanted : Wanted) (text : List ℕ) : Type 0 where
  pub lines : List ChangeLine
  pub changed : AreChanges side s wanted lines
  pub written : text ≡ changes_json lines
