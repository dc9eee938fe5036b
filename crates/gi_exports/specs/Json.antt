-- The reports as JSON lines: an object for each entry, compact, its keys in byte order.
use Rattle.std.specs.Prelude.{◌≡◌, ℕ, List, [], ◌∷◌, ◌++◌, Option, Some, None, Result, IfOk, codes}
use Rattle.std.specs.List.{flat_map}
use Rattle.json.specs.Token.{Token}
use Rattle.json.specs.Written.{Written}
use Rattle.serde_json.specs.Data.{Data, null, string, object, no_members, member}
use Rattle.serde_json.specs.Written.{compact_text}
use Rattle.gi_day.specs.Day.{day_text}
use Rattle.gi_pairs.specs.Direction.{direction_text}
use Rattle.gi_pairs.specs.declared.side.Side.{Side}
use Rattle.gi_messages.specs.Adding.{Added, tokens_of}
use Rattle.gi_messages.specs.Writing.{whole}
use Rattle.gi_desk.specs.Machine.{DeskState}
use Rattle.gi_reports.specs.Open.{open_word}
use Rattle.gi_exports.specs.Lines.{AreConfirmedHours, AreOpenCycles}
use Rattle.gi_exports.specs.declared.confirmed_hour.ConfirmedHour.{ConfirmedHour}
use Rattle.gi_exports.specs.declared.open_cycle.OpenCycle.{OpenCycle}

-- the member of an object with that name and that value is added
abbrev pub AddsAt : {E : Type 0} → Result (Unit {0}) E → Written → Written → List ℕ → Data → Type 0
AddsAt r old new name d = IfOk r (λ _. Added old new (Token.key name ∷ tokens_of d))

-- an object was begun behind a text
pub record IsBegun (out : Written) (text : List ℕ) : Type 0 where
  pub before : out.before ≡ text
  pub tokens : out.tokens ≡ Token.begin_object ∷ []

-- null stands for a number that there is not
abbrev pub number_or_null : Option ℕ → Data
number_or_null None = null
number_or_null (Some n) = whole n

-- the text of a value, and a line feed
unfoldable pub line_of : Data → List ℕ
line_of d = compact_text d ++ codes "\n"

-- the line of each entry
abbrev pub json_lines : {X : Type 0} → (X → Data) → List X → List ℕ
json_lines value_of entries = flat_map (λ entry. line_of (value_of entry)) entries

-- `{"cycle":35,"day":"2026-01-15","direction":"IM","hour":24,"initiating":"A","matching":"B","quantity":7}`
unfoldable pub hour_data : ConfirmedHour → Data
hour_data h =
    object (member (codes "cycle") (whole h.id.cycle) (member (codes "day") (string (day_text h.id.day)) (member (codes "direction") (string (direction_text h.direction))
    (member (codes "hour") (whole h.hour) (member (codes "initiating") (string h.pair.initiating) (member (codes "matching") (string h.pair.matching)
    (member (codes "quantity") (whole h.quantity) no_members)))))))

-- `{"cycle":35,"day":"2026-01-15","state":"frozen"}`
unfoldable pub cycle_data : OpenCycle → Data
cycle_data c =
    object (member (codes "cycle") (whole c.id.cycle) (member (codes "day") (string (day_text c.id.day)) (member (codes "state") (string (open_word c.stage)) no_members)))

-- null stands for the portfolio of submissions that cannot be read
abbrev pub portfolio_data : Option (List ℕ) → Data
portfolio_data None = null
portfolio_data (Some code) = string code

-- `{"portfolio":"A","submissions":2}`
unfoldable pub count_data : Option (List ℕ) × ℕ → Data
count_data counted = object (member (codes "portfolio") (portfolio_data counted.0) (member (codes "submissions") (whole counted.1) no_members))

pub record IsConfirmedJson (side : Side) (s : DeskState) (text : List ℕ) : Type 0 where
  pub hours : List ConfirmedHour
  pub confirmed : AreConfirmedHours side s hours
  pub written : text ≡ json_lines hour_data hours

pub record IsOpenJson (side : Side) (s : DeskState) (text : List ℕ) : Type 0 where
  pub cycles : List OpenCycle
  pub unconfirmed : AreOpenCycles side s cycles
  pub written : text ≡ json_lines cycle_data cycles
