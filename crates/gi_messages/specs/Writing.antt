-- The one JSON text that is written for a message: its keys in byte order, its lines in their order and its rows in table order.
use Rattle.std.specs.Prelude.{ℕ, List, map, ◌==◌, if◌then◌else◌}
use Rattle.serde_json.specs.Data.{Data, number, unsigned, string, array, object, Members, no_members, member}
use Rattle.serde_json.specs.View.{items_of}
use Rattle.serde_json.specs.Written.{compact_text}
use Rattle.gi_day.specs.Day.{day_text}
use Rattle.gi_pairs.specs.Direction.{direction_text}
use Rattle.gi_pairs.specs.declared.row.Row.{Row}
use Rattle.gi_messages.specs.declared.key.Key.TheVariants as keys
use Rattle.gi_messages.specs.declared.kind.Kind.TheVariants as kinds
use Rattle.gi_messages.specs.declared.line.Line.{Line}
use Rattle.gi_messages.specs.declared.nomination_line.NominationLine.{NominationLine}
use Rattle.gi_messages.specs.declared.message.Nomint.{Nomint}
use Rattle.gi_messages.specs.declared.message.Acknow.{Acknow}
use Rattle.gi_messages.specs.declared.message.Nomres.{Nomres}
use Rattle.gi_messages.specs.declared.message.Delord.{Delord}
use Rattle.gi_messages.specs.declared.message.Delres.{Delres}
use Rattle.gi_messages.specs.declared.message.Message.{Message}
use Rattle.gi_messages.specs.declared.message.Message.TheVariants as messages
use Rattle.gi_messages.specs.Key.{key_text}
use Rattle.gi_messages.specs.Kind.{kind_text}
use Rattle.gi_messages.specs.Limits.{usual_priority}

abbrev pub whole : ℕ → Data
whole n = number (unsigned n)

abbrev pub whole_numbers : List ℕ → Data
whole_numbers ns = array (items_of (map whole ns))

unfoldable pub row_data : Row → Data
row_data r =
    object (member (key_text keys.Direction) (string (direction_text r.direction)) (member (key_text keys.Hours) (whole_numbers r.hours)
    (member (key_text keys.Initiating) (string r.pair.initiating) (member (key_text keys.Matching) (string r.pair.matching) no_members))))

abbrev pub rows_data : List Row → Data
rows_data rs = array (items_of (map row_data rs))

unfoldable pub line_data : Line → Data
line_data l =
    object (member (key_text keys.Counterparty) (string l.counterparty) (member (key_text keys.Direction) (string (direction_text l.direction))
    (member (key_text keys.Hours) (whole_numbers l.hours) no_members)))

-- a priority is written where it is not the usual one
abbrev pub priority_members : ℕ → Members
priority_members priority = if priority == usual_priority then no_members else member (key_text keys.Priority) (whole priority) no_members

unfoldable pub nomination_line_data : NominationLine → Data
nomination_line_data l =
    object (member (key_text keys.Counterparty) (string l.counterparty) (member (key_text keys.Direction) (string (direction_text l.direction))
    (member (key_text keys.Hours) (whole_numbers l.hours) (priority_members l.priority))))

-- the lines, each as f writes it
abbrev pub lines_data : {X : Type 0} → (X → Data) → List X → Data
lines_data f ls = array (items_of (map f ls))

unfoldable pub nomint_data : Nomint → Data
nomint_data m =
    object (member (key_text keys.Day) (string (day_text m.day)) (member (key_text keys.Kind) (string (kind_text kinds.Nomint)) (member (key_text keys.Lines) (lines_data nomination_line_data m.lines)
    (member (key_text keys.Point) (string m.point) (member (key_text keys.Portfolio) (string m.portfolio) (member (key_text keys.Version) (whole m.version) no_members))))))

unfoldable pub acknow_data : Acknow → Data
acknow_data m =
    object (member (key_text keys.Day) (string (day_text m.day)) (member (key_text keys.Kind) (string (kind_text kinds.Acknow)) (member (key_text keys.Point) (string m.point)
    (member (key_text keys.Portfolio) (string m.portfolio) (member (key_text keys.Version) (whole m.version) no_members)))))

unfoldable pub nomres_data : Nomres → Data
nomres_data m =
    object (member (key_text keys.Cycle) (whole m.cycle) (member (key_text keys.Day) (string (day_text m.day)) (member (key_text keys.First) (whole m.first)
    (member (key_text keys.Kind) (string (kind_text kinds.Nomres)) (member (key_text keys.Last) (whole m.last) (member (key_text keys.Lines) (lines_data line_data m.lines)
    (member (key_text keys.Point) (string m.point) (member (key_text keys.Portfolio) (string m.portfolio) no_members))))))))

-- which part it is and of how many is written where there are several
abbrev pub part_members : ℕ → ℕ → Members → Members
part_members parts part rest = if parts == 1 then rest else member (key_text keys.Part) (whole part) (member (key_text keys.Parts) (whole parts) rest)

unfoldable pub delord_data : Delord → Data
delord_data m =
    object (member (key_text keys.Cycle) (whole m.cycle) (member (key_text keys.Day) (string (day_text m.day)) (member (key_text keys.First) (whole m.processed.first)
    (member (key_text keys.Kind) (string (kind_text kinds.Delord)) (member (key_text keys.Last) (whole m.processed.last) (part_members m.parts m.part
    (member (key_text keys.Point) (string m.point) (member (key_text keys.Processed) (rows_data m.processed.rows) no_members))))))))

unfoldable pub delres_data : Delres → Data
delres_data m =
    object (member (key_text keys.Confirmed) (rows_data m.confirmed.rows) (member (key_text keys.Cycle) (whole m.cycle) (member (key_text keys.Day) (string (day_text m.day)) (member (key_text keys.First) (whole m.processed.first)
    (member (key_text keys.Kind) (string (kind_text kinds.Delres)) (member (key_text keys.Last) (whole m.processed.last) (part_members m.parts m.part
    (member (key_text keys.Point) (string m.point) (member (key_text keys.Processed) (rows_data m.processed.rows) no_members)))))))))

abbrev pub data_of : Message → Data
data_of (messages.Nomint m) = nomint_data m
data_of (messages.Acknow m) = acknow_data m
data_of (messages.Nomres m) = nomres_data m
data_of (messages.Delord m) = delord_data m
data_of (messages.Delres m) = delres_data m

-- with no spaces
unfoldable pub text_of : Message → List ℕ
text_of m = compact_text (data_of m)
