-- The text of a message with few lines is not too large.
use Rattle.std.proofs.Common.{◌≡◌, ℕ, ◌+◌, ◌*◌, ◌≤◌, Bool, true, false, cond, ◌==◌, ℤ, pos, negsuc, List, [], ◌∷◌, ◌++◌, length, All, IsTrue, refl, arith}
use Rattle.std.specs.List.{AllByRecursion}
use Rattle.std.proofs.lemmas.Bool.Decides.{nat_tests}
use Rattle.std.proofs.lemmas.Fmt.{length-decimal-le}
use Rattle.std.proofs.lemmas.List.Elements.{recursion_from_All}
use Rattle.json.specs.Print.{escape_byte, escape}
use Rattle.json.proofs.Printed.Strings.{escape_byte_plain}
use Rattle.jiff_core.specs.declared.civil.date.Date.{Date}
use Rattle.jiff_fmt.specs.Text.{year_text, pad2}
use Rattle.serde_json.specs.Data.{Data, string, Members, no_members, member}
use Rattle.gi_day.specs.Day.{day_text}
use Rattle.gi_pairs.specs.Code.{IsCode, is_character}
use Rattle.gi_pairs.specs.Direction.{direction_text}
use Rattle.gi_pairs.specs.Limits.{last_hour}
use Rattle.gi_pairs.specs.Quantity.{IsQuantity}
use Rattle.gi_pairs.specs.Row.{IsRow}
use Rattle.gi_pairs.specs.Table.{TableContents, IsTable}
use Rattle.gi_pairs.specs.declared.direction.Direction.{Direction}
use Rattle.gi_pairs.specs.declared.direction.Direction.TheVariants.{IM, MI}
use Rattle.gi_pairs.specs.declared.row.Row.{Row}
use Rattle.gi_messages.specs.declared.key.Key.{Key}
use Rattle.gi_messages.specs.declared.key.Key.TheVariants as keys
use Rattle.gi_messages.specs.declared.kind.Kind.{Kind}
use Rattle.gi_messages.specs.declared.kind.Kind.TheVariants as kinds
use Rattle.gi_messages.specs.declared.line.Line.{Line}
use Rattle.gi_messages.specs.declared.nomination_line.NominationLine.{NominationLine}
use Rattle.gi_messages.specs.declared.message.Nomint.{Nomint}
use Rattle.gi_messages.specs.declared.message.Acknow.{Acknow}
use Rattle.gi_messages.specs.declared.message.Nomres.{Nomres}
use Rattle.gi_messages.specs.declared.message.Delord.{Delord}
use Rattle.gi_messages.specs.declared.message.Delres.{Delres}
use Rattle.gi_messages.specs.declared.message.Message.{Message}
use Rattle.gi_messages.specs.declared.message.Message.TheVariants as messages
use Rattle.gi_messages.specs.Grammar.{FitsLine, FitsNominationLine, FitsNomint, FitsAcknow, FitsNomres, FitsDelord, FitsDelres, Fits, IsWritable, HasFewLines}
use Rattle.gi_messages.specs.Key.{key_text}
use Rattle.gi_messages.specs.Kind.{kind_text}
use Rattle.gi_messages.specs.Limits.{elements_of, most_bytes, most_confirmed_elements, most_line_bytes, few_lines, most_nomination_line_bytes, most_part_elements, most_processed_elements, most_row_bytes, usual_priority}
use Rattle.gi_messages.specs.Writing.{whole, whole_numbers, row_data, rows_data, line_data, priority_members, nomination_line_data, lines_data, part_members, nomint_data, acknow_data, nomres_data, delord_data, delres_data, data_of, text_of}
use Rattle.gi_messages.proofs.Lengths.{IsWithin, AreWithin, IsBare, length-bare, quoted_le, array_within, none_within, member_within, object_within, members_wider, wider}
use Rattle.gi_messages.proofs.WritingLemmas.{fits_from_writable}

-- ---- texts that are written as they stand

-- the characters of codes are no quotation mark, no backslash and no control character
character_between : (c : ℕ) → is_character c ≡ true → (45 ≤ c) × (c ≤ 90)
character_between c is = (grind (arith, nat_tests), grind (arith, nat_tests))

character_bare : (c : ℕ) → is_character c ≡ true → escape_byte c ≡ c ∷ []
character_bare c is = let between = character_between c is in escape_byte_plain c (λ e. omega (arith, between.0)) (λ e. omega (arith, between.1)) (omega (arith, between.0))

characters_bare : (code : List ℕ) → AllByRecursion (λ c. IsTrue (is_character c)) code → escape code ≡ code
characters_bare [] all = refl
characters_bare (c ∷ cs) all = let rest = characters_bare cs all.1 in λ i. character_bare c all.0 i ++ rest i

code_bare : (code : List ℕ) → IsCode code → IsBare code
code_bare code is = record { same = characters_bare code (recursion_from_All (λ c. IsTrue (is_character c)) code is.characters) }

key_bare : (key : Key) → IsBare (key_text key)
unfolding escape_byte
key_bare keys.Kind = record { same = refl }
key_bare keys.Point = record { same = refl }
key_bare keys.Portfolio = record { same = refl }
key_bare keys.Day = record { same = refl }
key_bare keys.Version = record { same = refl }
key_bare keys.Cycle = record { same = refl }
key_bare keys.First = record { same = refl }
key_bare keys.Last = record { same = refl }
key_bare keys.Parts = record { same = refl }
key_bare keys.Part = record { same = refl }
key_bare keys.Lines = record { same = refl }
key_bare keys.Processed = record { same = refl }
key_bare keys.Confirmed = record { same = refl }
key_bare keys.Counterparty = record { same = refl }
key_bare keys.Initiating = record { same = refl }
key_bare keys.Matching = record { same = refl }
key_bare keys.Direction = record { same = refl }
key_bare keys.Hours = record { same = refl }
key_bare keys.Priority = record { same = refl }
key_bare keys.Fact = record { same = refl }
key_bare keys.Nomint = record { same = refl }
key_bare keys.Firm = record { same = refl }
key_bare keys.Interruptible = record { same = refl }
key_bare keys.Peer = record { same = refl }
key_bare keys.Rule = record { same = refl }

-- ---- fields

bare_within : (most : ℕ) (s : List ℕ) → IsBare s → length s ≤ most → IsWithin (most + 2) (string s)
bare_within most s bare short = record { within = omega (arith, length-bare s bare) }

code_within : (code : List ℕ) → IsCode code → IsWithin 18 (string code)
code_within code is = bare_within 16 code (code_bare code is) is.short

direction_within : (d : Direction) → IsWithin 4 (string (direction_text d))
unfolding escape_byte
direction_within IM = record { within = omega arith }
direction_within MI = record { within = omega arith }

kind_within : (kind : Kind) → IsWithin 8 (string (kind_text kind))
unfolding escape_byte
kind_within kinds.Nomint = record { within = omega arith }
kind_within kinds.Acknow = record { within = omega arith }
kind_within kinds.Nomres = record { within = omega arith }
kind_within kinds.Delord = record { within = omega arith }
kind_within kinds.Delres = record { within = omega arith }

parts_le : (year : ℤ) (month day : ℕ) → length (year_text year ++ 45 ∷ [] ++ pad2 month ++ 45 ∷ [] ++ pad2 day) ≤ 16
parts_le (pos n) month day = omega arith
parts_le (negsuc n) month day = omega arith

-- of any date, also one with a month that is none
day_within : (day : Date) → IsWithin 98 (string (day_text day))
day_within day = record { within = quoted_le 16 (day_text day) (parts_le day.year day.month day.day) }

number_within : (n : ℕ) → IsQuantity n → IsWithin 12 (whole n)
number_within n small = record { within = length-decimal-le 12 n (omega arith) (omega (arith, small)) (omega (arith, small)) }

with_key : (key : Key) (d : Data) (ms : Members) (value rest : ℕ) → IsWithin value d → AreWithin rest ms → AreWithin (length (key_text key) + value + rest + 4) (member (key_text key) d ms)
with_key key d ms value rest = member_within (key_text key) d ms value rest (key_bare key)

-- ---- rows and lines

hours_within : (hours : List ℕ) → All IsQuantity hours → length hours ≤ last_hour → IsWithin 327 (whole_numbers hours)
hours_within hours small few = wider _ _ 327 (array_within whole 12 hours (λ i n at. number_within _ (small i n at))) (omega (arith, few))

row_within : (r : Row) → IsRow r → length r.hours ≤ last_hour → IsWithin most_row_bytes (row_data r)
unfolding row_data
row_within r h few =
    let matching = with_key keys.Matching _ _ _ _ (code_within r.pair.matching h.key.matching) none_within in
    let initiating = with_key keys.Initiating _ _ _ _ (code_within r.pair.initiating h.key.initiating) matching in
    let hours = with_key keys.Hours _ _ _ _ (hours_within r.hours h.quantities few) initiating in
    let direction = with_key keys.Direction _ _ _ _ (direction_within r.direction) hours in
    wider _ _ most_row_bytes (object_within _ _ direction) (omega arith)

line_within : (l : Line) → FitsLine l → length l.hours ≤ last_hour → IsWithin most_line_bytes (line_data l)
unfolding line_data
line_within l h few =
    let hours = with_key keys.Hours _ _ _ _ (hours_within l.hours h.quantities few) none_within in
    let direction = with_key keys.Direction _ _ _ _ (direction_within l.direction) hours in
    let counterparty = with_key keys.Counterparty _ _ _ _ (code_within l.counterparty h.counterparty) direction in
    wider _ _ most_line_bytes (object_within _ _ counterparty) (omega arith)

priority_by : (priority : ℕ) → IsQuantity priority → (b : Bool) → AreWithin 25 (cond b no_members (member (key_text keys.Priority) (whole priority) no_members))
priority_by priority small true = members_wider _ 1 25 none_within (omega arith)
priority_by priority small false = with_key keys.Priority _ _ _ _ (number_within priority small) none_within

priority_within : (priority : ℕ) → IsQuantity priority → AreWithin 25 (priority_members priority)
priority_within priority small = priority_by priority small (priority == usual_priority)

nomination_line_within : (l : NominationLine) → FitsNominationLine l → length l.hours ≤ last_hour → IsWithin most_nomination_line_bytes (nomination_line_data l)
unfolding nomination_line_data
nomination_line_within l h few =
    let priority = priority_within l.priority (omega (arith, h.to)) in
    let hours = with_key keys.Hours _ _ _ _ (hours_within l.hours h.quantities few) priority in
    let direction = with_key keys.Direction _ _ _ _ (direction_within l.direction) hours in
    let counterparty = with_key keys.Counterparty _ _ _ _ (code_within l.counterparty h.counterparty) direction in
    wider _ _ most_nomination_line_bytes (object_within _ _ counterparty) (omega arith)

row_hours : (t : TableContents) → IsTable t → All (λ r. length r.hours ≤ last_hour) t.rows
row_hours t h i r at = omega (arith, h.whole i r at, h.begins, h.ends)

table_within : (most : ℕ) (t : TableContents) → IsTable t → length t.rows ≤ most → IsWithin (most * (most_row_bytes + 1) + 2) (rows_data t.rows)
table_within most t h few = wider _ _ _ (array_within row_data most_row_bytes t.rows (λ i r at. row_within _ (h.all i r at) (row_hours t h i r at))) (omega (arith, few))

lines_within : (ls : List Line) → All FitsLine ls → All (λ l. length l.hours ≤ last_hour) ls → length ls ≤ few_lines → IsWithin (few_lines * (most_line_bytes + 1) + 2) (lines_data line_data ls)
lines_within ls fits short few = wider _ _ _ (array_within line_data most_line_bytes ls (λ i l at. line_within _ (fits i l at) (short i l at))) (omega (arith, few))

nomination_lines_within : (ls : List NominationLine) → All FitsNominationLine ls → All (λ l. length l.hours ≤ last_hour) ls → length ls ≤ few_lines
    → IsWithin (few_lines * (most_nomination_line_bytes + 1) + 2) (lines_data nomination_line_data ls)
nomination_lines_within ls fits short few = wider _ _ _ (array_within nomination_line_data most_nomination_line_bytes ls (λ i l at. nomination_line_within _ (fits i l at) (short i l at))) (omega (arith, few))

-- ---- which part it is

part_by : (parts part most : ℕ) (rest : Members) → IsQuantity parts → IsQuantity part → AreWithin most rest → (b : Bool)
    → AreWithin (most + 360) (cond b rest (member (key_text keys.Part) (whole part) (member (key_text keys.Parts) (whole parts) rest)))
part_by parts part most rest small_parts small h true = members_wider rest most (most + 360) h (omega arith)
part_by parts part most rest small_parts small h false =
    members_wider _ _ (most + 360) (with_key keys.Part _ _ _ _ (number_within part small) (with_key keys.Parts _ _ _ _ (number_within parts small_parts) h)) (omega arith)

part_within : (parts part most : ℕ) (rest : Members) → IsQuantity parts → IsQuantity part → AreWithin most rest → AreWithin (most + 360) (part_members parts part rest)
part_within parts part most rest small_parts small h = part_by parts part most rest small_parts small h (parts == 1)

-- one of several parts has no more elements
few_by : (most : ℕ) (b : Bool) → most_part_elements ≤ most → cond b most most_part_elements ≤ most
few_by most true few = omega arith
few_by most false few = few

few_of : (most parts : ℕ) → most_part_elements ≤ most → elements_of most parts ≤ most
few_of most parts few = few_by most (parts == 1) few

-- ---- messages

nomint_within : (m : Nomint) → FitsNomint m → HasFewLines (messages.Nomint m) → IsWithin most_bytes (nomint_data m)
unfolding nomint_data
nomint_within m h few =
    let version = with_key keys.Version _ _ _ _ (number_within m.version (omega (arith, h.to))) none_within in
    let portfolio = with_key keys.Portfolio _ _ _ _ (code_within m.portfolio h.portfolio) version in
    let point = with_key keys.Point _ _ _ _ (code_within m.point h.point) portfolio in
    let lines = with_key keys.Lines _ _ _ _ (nomination_lines_within m.lines h.lines few.1 few.0) point in
    let kind = with_key keys.Kind _ _ _ _ (kind_within kinds.Nomint) lines in
    let day = with_key keys.Day _ _ _ _ (day_within m.day) kind in
    wider _ _ most_bytes (object_within _ _ day) (omega arith)

acknow_within : (m : Acknow) → FitsAcknow m → IsWithin most_bytes (acknow_data m)
unfolding acknow_data
acknow_within m h =
    let version = with_key keys.Version _ _ _ _ (number_within m.version (omega (arith, h.to))) none_within in
    let portfolio = with_key keys.Portfolio _ _ _ _ (code_within m.portfolio h.portfolio) version in
    let point = with_key keys.Point _ _ _ _ (code_within m.point h.point) portfolio in
    let kind = with_key keys.Kind _ _ _ _ (kind_within kinds.Acknow) point in
    let day = with_key keys.Day _ _ _ _ (day_within m.day) kind in
    wider _ _ most_bytes (object_within _ _ day) (omega arith)

-- each line is for hours of a gas day
nomres_hours : (m : Nomres) → FitsNomres m → All (λ l. length l.hours ≤ last_hour) m.lines
nomres_hours m h i l at = omega (arith, h.whole i l at, h.begins, h.ends)

nomres_within : (m : Nomres) → FitsNomres m → length m.lines ≤ few_lines → IsWithin most_bytes (nomres_data m)
unfolding nomres_data
nomres_within m h few =
    let portfolio = with_key keys.Portfolio _ _ _ _ (code_within m.portfolio h.portfolio) none_within in
    let point = with_key keys.Point _ _ _ _ (code_within m.point h.point) portfolio in
    let lines = with_key keys.Lines _ _ _ _ (lines_within m.lines h.lines (nomres_hours m h) few) point in
    let last = with_key keys.Last _ _ _ _ (number_within m.last (omega (arith, h.ends))) lines in
    let kind = with_key keys.Kind _ _ _ _ (kind_within kinds.Nomres) last in
    let first = with_key keys.First _ _ _ _ (number_within m.first (omega (arith, h.ordered, h.ends))) kind in
    let day = with_key keys.Day _ _ _ _ (day_within m.day) first in
    let cycle = with_key keys.Cycle _ _ _ _ (number_within m.cycle (omega (arith, h.cycle))) day in
    wider _ _ most_bytes (object_within _ _ cycle) (omega arith)

delord_within : (m : Delord) → FitsDelord m → IsWithin most_bytes (delord_data m)
unfolding delord_data
delord_within m h =
    let processed = with_key keys.Processed _ _ _ _ (table_within most_processed_elements m.processed h.processed (omega (arith, h.few, few_of most_processed_elements m.parts (omega arith)))) none_within in
    let point = with_key keys.Point _ _ _ _ (code_within m.point h.point) processed in
    let part = part_within m.parts m.part _ _ (omega (arith, h.few_parts)) (omega (arith, h.part_to, h.few_parts)) point in
    let last = with_key keys.Last _ _ _ _ (number_within m.processed.last (omega (arith, h.processed.ends))) part in
    let kind = with_key keys.Kind _ _ _ _ (kind_within kinds.Delord) last in
    let first = with_key keys.First _ _ _ _ (number_within m.processed.first (omega (arith, h.processed.ordered, h.processed.ends))) kind in
    let day = with_key keys.Day _ _ _ _ (day_within m.day) first in
    let cycle = with_key keys.Cycle _ _ _ _ (number_within m.cycle (omega (arith, h.cycle))) day in
    wider _ _ most_bytes (object_within _ _ cycle) (omega arith)

delres_within : (m : Delres) → FitsDelres m → IsWithin most_bytes (delres_data m)
unfolding delres_data
delres_within m h =
    let processed = with_key keys.Processed _ _ _ _ (table_within most_processed_elements m.processed h.processed (omega (arith, h.few, few_of most_processed_elements m.parts (omega arith)))) none_within in
    let point = with_key keys.Point _ _ _ _ (code_within m.point h.point) processed in
    let part = part_within m.parts m.part _ _ (omega (arith, h.few_parts)) (omega (arith, h.part_to, h.few_parts)) point in
    let last = with_key keys.Last _ _ _ _ (number_within m.processed.last (omega (arith, h.processed.ends))) part in
    let kind = with_key keys.Kind _ _ _ _ (kind_within kinds.Delres) last in
    let first = with_key keys.First _ _ _ _ (number_within m.processed.first (omega (arith, h.processed.ordered, h.processed.ends))) kind in
    let day = with_key keys.Day _ _ _ _ (day_within m.day) first in
    let cycle = with_key keys.Cycle _ _ _ _ (number_within m.cycle (omega (arith, h.cycle))) day in
    let confirmed = with_key keys.Confirmed _ _ _ _ (table_within most_confirmed_elements m.confirmed h.confirmed (omega (arith, h.few_confirmed, few_of most_confirmed_elements m.parts (omega arith)))) cycle in
    wider _ _ most_bytes (object_within _ _ confirmed) (omega arith)

within : (m : Message) → Fits m → HasFewLines m → IsWithin most_bytes (data_of m)
within (messages.Nomint m) h few = nomint_within m h few
within (messages.Acknow m) h few = acknow_within m h
within (messages.Nomres m) h few = nomres_within m h few
within (messages.Delord m) h few = delord_within m h
within (messages.Delres m) h few = delres_within m h

-- the text of a message with few lines is not too large
pub texts_are_short : (m : Message) → IsWritable m → HasFewLines m → length (text_of m) ≤ most_bytes
unfolding text_of
texts_are_short m writable few = (within m (fits_from_writable m writable) few).within
