-- The cuts of a side in text, as CSV and as JSON lines.
use Rattle.std.specs.Prelude.{◌≡◌, ℕ, List, [], ◌∷◌, ◌++◌, nat_eq, if◌then◌else◌, codes}
use Rattle.std.specs.Fmt.{decimal}
use Rattle.std.specs.List.{flat_map}
use Rattle.serde_json.specs.Data.{Data, string, object, no_members, member}
use Rattle.gi_day.specs.Day.{day_text}
use Rattle.gi_pairs.specs.Direction.{direction_text}
use Rattle.gi_pairs.specs.declared.cycle_id.CycleId.{CycleId}
use Rattle.gi_pairs.specs.declared.direction.Direction.{Direction}
use Rattle.gi_pairs.specs.declared.pair.Pair.{Pair}
use Rattle.gi_pairs.specs.declared.side.Side.{Side}
use Rattle.gi_text.specs.Columns.{right_in}
use Rattle.gi_messages.specs.Writing.{whole}
use Rattle.gi_desk.specs.Machine.{DeskState}
use Rattle.gi_reports.specs.Columns.{left_in}
use Rattle.gi_exports.specs.Csv.{csv_text}
use Rattle.gi_schedule.specs.Cuts.{AreCuts}
use Rattle.gi_exports.specs.Json.{json_lines}
use Rattle.gi_schedule.specs.declared.cut_line.CutLine.{CutLine}
use Rattle.gi_schedule.specs.declared.wanted.Wanted.{Wanted}

-- who cut it: where the capacity did not, the other operator did
abbrev pub cut_word : CutLine → List ℕ
cut_word line = if nat_eq line.by_capacity 0 then codes "peer" else (if nat_eq line.by_peer 0 then codes "capacity" else codes "both")

-- ---- in text

-- `2026-01-15 35 IM A                B                24`
abbrev pub place_text : CycleId → Direction → Pair → ℕ → List ℕ
place_text id direction pair hour =
    day_text id.day ++ (codes " " ++ (right_in 2 id.cycle ++ (codes " " ++ (direction_text direction ++ (codes " "
    ++ (left_in 16 pair.initiating ++ (codes " " ++ (left_in 16 pair.matching ++ (codes " " ++ right_in 2 hour)))))))))

-- `          10            8            7            7`
abbrev pub amounts_text : CutLine → List ℕ
amounts_text line =
    right_in 12 line.nominated ++ (codes " " ++ (right_in 12 line.processed ++ (codes " " ++ (right_in 12 line.peer ++ (codes " " ++ right_in 12 line.confirmed)))))

-- the same with what was cut: `           2            1 both`
abbrev pub cut_text : CutLine → List ℕ
cut_text line =
    place_text line.id line.direction line.pair line.hour ++ (codes " " ++ (amounts_text line ++ (codes " " ++ (right_in 12 line.by_capacity ++ (codes " " ++ (right_in 12 line.by_peer
    ++ (codes " " ++ (cut_word line ++ codes "\n"))))))))

abbrev pub cuts_text : List CutLine → List ℕ
cuts_text lines = flat_map cut_text lines

pub record IsCutText (side : Side) (s : DeskState) (wanted : Wanted) (text : List ℕ) : Type 0 where
  pub lines : List CutLine
  pub cut : AreCuts side s wanted lines
  pub written : text ≡ cuts_text lines

-- ---- as CSV

abbrev pub cut_header : List (List ℕ)
cut_header =
    codes "day" ∷ codes "cycle" ∷ codes "direction" ∷ codes "initiating" ∷ codes "matching" ∷ codes "hour" ∷ codes "nominated" ∷ codes "processed" ∷ codes "peer"
    ∷ codes "confirmed" ∷ codes "by_capacity" ∷ codes "by_peer" ∷ codes "cut" ∷ []

-- `2026-01-15,35,IM,A,B,24,10,8,7,7,2,1,both`
abbrev pub cut_fields : CutLine → List (List ℕ)
cut_fields line =
    day_text line.id.day ∷ decimal line.id.cycle ∷ direction_text line.direction ∷ line.pair.initiating ∷ line.pair.matching ∷ decimal line.hour
    ∷ decimal line.nominated ∷ decimal line.processed ∷ decimal line.peer ∷ decimal line.confirmed ∷ decimal line.by_capacity ∷ decimal line.by_peer ∷ cut_word line ∷ []

pub record IsCutCsv (side : Side) (s : DeskState) (wanted : Wanted) (text : List ℕ) : Type 0 where
  pub lines : List CutLine
  pub cut : AreCuts side s wanted lines
  pub written : text ≡ csv_text cut_header cut_fields lines

-- ---- as JSON lines

-- `{"by_capacity":2,"by_peer":1,"confirmed":7,"cut":"both","cycle":35,"day":"2026-01-15","direction":"IM","hour":24,"initiating":"A","matching":"B","nominated":10,"peer":7,"processed":8}`
unfoldable pub cut_data : CutLine → Data
cut_data line =
    object (member (codes "by_capacity") (whole line.by_capacity) (member (codes "by_peer") (whole line.by_peer) (member (codes "confirmed") (whole line.confirmed)
    (member (codes "cut") (string (cut_word line)) (member (codes "cycle") (whole line.id.cycle) (member (codes "day") (string (day_text line.id.day))
    (member (codes "direction") (string (direction_text line.direction)) (member (codes "hour") (whole line.hour) (member (codes "initiating") (string line.pair.initiating)
    (member (codes "matching") (string line.pair.matching) (member (codes "nominated") (whole line.nominated) (member (codes "peer") (whole line.peer)
    (member (codes "processed") (whole line.processed) no_members)))))))))))))

pub record IsCutJson (side : Side) (s : DeskState) (wanted : Wanted) (text : List ℕ) : Type 0 where
  pub lines : List CutLine
  pub cut : AreCuts side s wanted lines
  pub written : text ≡ json_lines cut_data lines
