-- The reports as CSV: a header line, and a line for each entry.
use Rattle.std.specs.Prelude.{◌≡◌, ℕ, List, [], ◌∷◌, ◌++◌, Option, Some, None, codes}
use Rattle.std.specs.Fmt.{decimal}
use Rattle.std.specs.List.{flat_map}
use Rattle.csv.specs.Writing.{default_writer, row_text}
use Rattle.gi_day.specs.Day.{day_text}
use Rattle.gi_pairs.specs.Direction.{direction_text}
use Rattle.gi_pairs.specs.declared.side.Side.{Side}
use Rattle.gi_desk.specs.Machine.{DeskState}
use Rattle.gi_reports.specs.Open.{open_word}
use Rattle.gi_exports.specs.Lines.{AreConfirmedHours, AreOpenCycles}
use Rattle.gi_exports.specs.declared.confirmed_hour.ConfirmedHour.{ConfirmedHour}
use Rattle.gi_exports.specs.declared.open_cycle.OpenCycle.{OpenCycle}

-- the text of a record: commas between its fields, and a line feed at its end
unfoldable pub record_text : List (List ℕ) → List ℕ
record_text fields = row_text default_writer fields

-- the header, and the record of each entry
abbrev pub csv_text : {X : Type 0} → List (List ℕ) → (X → List (List ℕ)) → List X → List ℕ
csv_text header fields entries = record_text header ++ flat_map (λ entry. record_text (fields entry)) entries

abbrev pub confirmed_header : List (List ℕ)
confirmed_header = codes "day" ∷ codes "cycle" ∷ codes "direction" ∷ codes "initiating" ∷ codes "matching" ∷ codes "hour" ∷ codes "quantity" ∷ []

-- `2026-01-15,35,IM,A,B,24,7`
abbrev pub hour_fields : ConfirmedHour → List (List ℕ)
hour_fields h =
    day_text h.id.day ∷ decimal h.id.cycle ∷ direction_text h.direction ∷ h.pair.initiating ∷ h.pair.matching ∷ decimal h.hour ∷ decimal h.quantity ∷ []

abbrev pub open_header : List (List ℕ)
open_header = codes "day" ∷ codes "cycle" ∷ codes "state" ∷ []

-- `2026-01-15,35,frozen`
abbrev pub cycle_fields : OpenCycle → List (List ℕ)
cycle_fields c = day_text c.id.day ∷ decimal c.id.cycle ∷ open_word c.stage ∷ []

abbrev pub refused_header : List (List ℕ)
refused_header = codes "portfolio" ∷ codes "submissions" ∷ []

-- nothing stands for the portfolio of submissions that cannot be read
abbrev pub portfolio_field : Option (List ℕ) → List ℕ
portfolio_field None = []
portfolio_field (Some code) = code

-- `A,2`
abbrev pub count_fields : Option (List ℕ) × ℕ → List (List ℕ)
count_fields counted = portfolio_field counted.0 ∷ decimal counted.1 ∷ []

abbrev pub refused_text : List (Option (List ℕ) × ℕ) → List ℕ
refused_text counts = csv_text refused_header count_fields counts

pub record IsConfirmedCsv (side : Side) (s : DeskState) (text : List ℕ) : Type 0 where
  pub hours : List ConfirmedHour
  pub confirmed : AreConfirmedHours side s hours
  pub written : text ≡ csv_text confirmed_header hour_fields hours

pub record IsOpenCsv (side : Side) (s : DeskState) (text : List ℕ) : Type 0 where
  pub cycles : List OpenCycle
  pub unconfirmed : AreOpenCycles side s cycles
  pub written : text ≡ csv_text open_header cycle_fields cycles
