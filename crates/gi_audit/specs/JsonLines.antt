-- The lines of an audit as JSON objects, compact and with their keys in byte order: an object for each cycle, and one for the verdict.
use Rattle.std.specs.Prelude.{ℕ, List, Option, Some, None, option_map, codes}
use Rattle.serde_json.specs.Data.{Data, null, string, object, no_members, member}
use Rattle.gi_day.specs.Day.{day_text}
use Rattle.gi_messages.specs.Writing.{whole}
use Rattle.gi_pairs.specs.Direction.{direction_text}
use Rattle.gi_pairs.specs.Side.{side_text}
use Rattle.gi_pairs.specs.declared.cycle_id.CycleId.{CycleId}
use Rattle.gi_exports.specs.Json.{number_or_null}
use Rattle.gi_audit.specs.declared.difference.Difference.{Difference}
use Rattle.gi_audit.specs.declared.difference.Against.{Against}
use Rattle.gi_audit.specs.declared.difference.Against.TheVariants.{NotClosed, NotMet, Closed}
use Rattle.gi_audit.specs.declared.finding.Finding.{Finding}
use Rattle.gi_audit.specs.declared.finding.Finding.TheVariants.{Agreed, OpenAtInitiating, OpenAtBoth, Differs}
use Rattle.gi_audit.specs.declared.place.HourDifference.{HourDifference}
use Rattle.gi_audit.specs.declared.place.Place.{Place}
use Rattle.gi_audit.specs.declared.verdict.Verdict.{Verdict}
use Rattle.gi_audit.specs.declared.verdict.Verdict.TheVariants as told

-- `{"cycle":32,"day":"2026-01-15","found":"agreed","im":17,"line":"cycle","mi":0}`
unfoldable pub agreed_data : CycleId → ℕ → ℕ → Data
agreed_data id im mi =
    object (member (codes "cycle") (whole id.cycle) (member (codes "day") (string (day_text id.day)) (member (codes "found") (string (codes "agreed"))
    (member (codes "im") (whole im) (member (codes "line") (string (codes "cycle")) (member (codes "mi") (whole mi) no_members))))))

-- `{"at":"I","cycle":33,"day":"2026-01-15","found":"open","line":"cycle"}`
unfoldable pub open_data : CycleId → List ℕ → Data
open_data id at_side =
    object (member (codes "at") (string at_side) (member (codes "cycle") (whole id.cycle) (member (codes "day") (string (day_text id.day))
    (member (codes "found") (string (codes "open")) (member (codes "line") (string (codes "cycle")) no_members)))))

-- what both tables read in an hour, null where they read alike in each
abbrev pub hour_of : Option HourDifference → Option ℕ
hour_of differs = option_map (λ (it : HourDifference). it.hour) differs

abbrev pub met_of : Option HourDifference → Option ℕ
met_of differs = option_map (λ (it : HourDifference). it.met) differs

abbrev pub written_of : Option HourDifference → Option ℕ
written_of differs = option_map (λ (it : HourDifference). it.written) differs

-- `{"direction":"IM","hour":24,"initiating":"A","matching":"B","met":8,"written":10}`
unfoldable pub place_object : Place → Data
place_object place =
    object (member (codes "direction") (string (direction_text place.key.direction)) (member (codes "hour") (number_or_null (hour_of place.hour))
    (member (codes "initiating") (string place.key.pair.initiating) (member (codes "matching") (string place.key.pair.matching)
    (member (codes "met") (number_or_null (met_of place.hour)) (member (codes "written") (number_or_null (written_of place.hour)) no_members))))))

-- null where the other side has written no table
abbrev pub place_data : Option Place → Data
place_data None = null
place_data (Some place) = place_object place

-- what is against the table that was met, and the closing that froze another one
abbrev pub against_word : Against → List ℕ
against_word NotClosed = codes "not closed"
against_word NotMet = codes "not met"
against_word (Closed n) = codes "closed"

abbrev pub closing_of : Against → Option ℕ
closing_of NotClosed = None
closing_of NotMet = None
closing_of (Closed n) = Some n

-- `{"against":"closed","closing":5,"cycle":35,"day":"2026-01-15","found":"differs","line":"cycle","meeting":9,"place":{..},"side":"M"}`
unfoldable pub differs_data : CycleId → Difference → Option Place → Data
differs_data id d place =
    object (member (codes "against") (string (against_word d.against)) (member (codes "closing") (number_or_null (closing_of d.against))
    (member (codes "cycle") (whole id.cycle) (member (codes "day") (string (day_text id.day)) (member (codes "found") (string (codes "differs"))
    (member (codes "line") (string (codes "cycle")) (member (codes "meeting") (whole d.met) (member (codes "place") (place_data place)
    (member (codes "side") (string (side_text d.side)) no_members)))))))))

abbrev pub cycle_data : CycleId → Finding → Option Place → Data
cycle_data id (Agreed im mi) place = agreed_data id im mi
cycle_data id OpenAtInitiating place = open_data id (codes "I")
cycle_data id OpenAtBoth place = open_data id (codes "both")
cycle_data id (Differs difference) place = differs_data id difference place

-- `{"cycle":null,"day":null,"line":"verdict","verdict":"agreed"}`
unfoldable pub no_cycle_data : List ℕ → Data
no_cycle_data verdict =
    object (member (codes "cycle") null (member (codes "day") null (member (codes "line") (string (codes "verdict")) (member (codes "verdict") (string verdict) no_members))))

-- `{"cycle":35,"day":"2026-01-15","line":"verdict","verdict":"differs"}`
unfoldable pub first_cycle_data : CycleId → Data
first_cycle_data id =
    object (member (codes "cycle") (whole id.cycle) (member (codes "day") (string (day_text id.day)) (member (codes "line") (string (codes "verdict"))
    (member (codes "verdict") (string (codes "differs")) no_members))))

abbrev pub verdict_data : Verdict → Data
verdict_data told.Agreed = no_cycle_data (codes "agreed")
verdict_data told.Open = no_cycle_data (codes "open")
verdict_data told.Empty = no_cycle_data (codes "empty")
verdict_data (told.Differs id) = first_cycle_data id
