-- A message is refused for exactly the key that its relation names.
use Rattle.std.proofs.Common.{◌≡◌, ℕ, Bool, true, false, cond, List, length, Option, Some, None, Result, Ok, Err, refl, ap, ◌∙◌, nat_lt, le-ltb, ltb-false, eqb}
use Rattle.std.specs.Result.{result_ok}
use Rattle.std.proofs.lemmas.List.Elements.{All-from_recursion}
use Rattle.serde_json.specs.Data.{Data, Items}
use Rattle.serde_json.specs.Events.{items_len}
use Rattle.serde_json.specs.Find.{as_str, get}
use Rattle.gi_pairs.specs.Direction.{direction_named}
use Rattle.gi_pairs.specs.Limits.{last_hour}
use Rattle.gi_pairs.specs.Quantity.{most_quantity}
use Rattle.gi_pairs.specs.Row.{IsRow}
use Rattle.gi_pairs.specs.Table.{TableContents, built, covered}
use Rattle.gi_pairs.specs.declared.row.Row.{Row}
use Rattle.gi_pairs.specs.declared.table.TableFault.{TableFault}
use Rattle.jiff_core.specs.declared.civil.date.Date.{Date}
use Rattle.gi_pairs.specs.declared.direction.Direction.{Direction}
use Rattle.gi_messages.specs.Dates.{day_of}
use Rattle.gi_messages.specs.Decoding.{acknow, decoded, delord, delres, head, if_json, if_kind, kind_of, named, nomint, nomres, of_kind}
use Rattle.gi_messages.specs.FirstFault.{Among, Field, FieldOr, HasHours, HasNoKind, IsArray, IsJson, IsRefusedFor, Lacks, Part, Refuses, RefusesLineFor, RefusesNominationLine, RefusesNominationLines, RefusesHead, RefusesLinesFor, RefusesParts, RefusesRow, RefusesSpan, RefusesTable}
use Rattle.gi_messages.specs.Grammar.{AreElements, Each, Has, HasOr, HasRows, HasTable, IsLineFor, IsNominationLine, IsOfKind, IsRowFor, IsText, IsWhole, NamesCode, NamesDay, NamesDirection}
use Rattle.gi_messages.specs.Json.{json_of}
use Rattle.gi_messages.specs.Key.{key_text}
use Rattle.gi_messages.specs.Laws.{MissesKind, NamesFirstKey}
use Rattle.gi_messages.specs.Limits.{elements_of, last_cycle, last_priority, last_version, most_bytes, most_confirmed_elements, most_parts, most_processed_elements, usual_priority}
use Rattle.gi_messages.specs.Names.{code_of}
use Rattle.gi_messages.specs.Reading.{Read, ◌>>=◌, code, day, direction, each, hours, items, line, lines, member_at, nomination_line, number, number_or, or_usual, quantities, row, rows_of, span, table, wanted, whole}
use Rattle.gi_messages.specs.Reading as reading
use Rattle.gi_messages.specs.declared.head.Head.{Head}
use Rattle.gi_messages.specs.declared.head.Span.{Span}
use Rattle.gi_messages.specs.declared.key.Key.{Key}
use Rattle.gi_messages.specs.declared.key.Key.TheVariants as keys
use Rattle.gi_messages.specs.declared.kind.Kind.{Kind}
use Rattle.gi_messages.specs.declared.kind.Kind.TheVariants as kinds
use Rattle.gi_messages.specs.declared.message.Message.{Message}
use Rattle.gi_messages.specs.declared.message.Message.TheVariants as messages
use Rattle.gi_messages.specs.declared.message_fault.MessageFault.{MessageFault}
use Rattle.gi_messages.specs.declared.message_fault.MessageFault.TheVariants as faults
use Rattle.gi_messages.proofs.FieldLemmas.{Reads, Reads-code, Reads-day, Reads-direction, Reads-number, Reads-number_or, all_of_each, wanted_ok}
use Rattle.gi_messages.proofs.HeadLemmas.{made_head, made_span}
use Rattle.gi_messages.proofs.HoursLemmas.{hours_again, hours_take}
use Rattle.gi_messages.proofs.LineLemmas.{Reads-line_for, Reads-nomination_line}
use Rattle.gi_messages.proofs.MessageLemmas.{kind_of-again, kind_of-takes}
use Rattle.gi_messages.proofs.RowLemmas.{Reads-row}
use Rattle.gi_messages.proofs.TableLemmas.{IsRow-IsRowFor, made as made_table, makes, some_of_ok, table_again, table_takes}
use Rattle.gi_messages.proofs.Refusing.{Gets, Names, Reads-items, Refused, among, each_gets, field, gets, in_object, lacks, like, made, names-bind, names-found, names-each, names-items, names-member, names-test, names-wanted, part, within}

-- ---- fields of one value

names-text : (key : Key) (d : Data) → Names key (reading.text key d)
unfolding reading.text
names-text key d = names-bind key (member_at key d) (λ v. wanted key (as_str v)) (names-member key d) (λ v. names-wanted key (as_str v))

names-named : {X : Type 0} (key : Key) (of_text : List ℕ → Option X) (d : Data) → Names key (reading.text key d >>= λ name. wanted key (of_text name))
names-named key of_text d = names-bind key (reading.text key d) (λ name. wanted key (of_text name)) (names-text key d) (λ name. names-wanted key (of_text name))

names-code : (key : Key) (d : Data) → Names key (code key d)
unfolding code
names-code key d = names-named key code_of d

names-day : (key : Key) (d : Data) → Names key (day key d)
unfolding day
names-day key d = names-named key day_of d

names-direction : (key : Key) (d : Data) → Names key (direction key d)
unfolding direction
names-direction key d = names-named key direction_named d

names-whole : (low high : ℕ) (key : Key) (d : Data) → Names key (whole low high key d)
names-whole low high key d = names-wanted key _

names-number : (low high : ℕ) (key : Key) (d : Data) → Names key (number low high key d)
unfolding number
names-number low high key d = names-bind key (member_at key d) (whole low high key) (names-member key d) (names-whole low high key)

names-or : (usual low high : ℕ) (key : Key) (o : Option Data) → Names key (or_usual usual (whole low high key) o)
names-or usual low high key None = names-found key usual
names-or usual low high key (Some v) = names-whole low high key v

names-number_or : (usual low high : ℕ) (key : Key) (d : Data) → Names key (number_or usual low high key d)
unfolding number_or
names-number_or usual low high key d = names-or usual low high key (get (key_text key) d)

abbrev whole_quantity : Data → Read ℕ
whole_quantity = whole 0 most_quantity keys.Hours

names-quantities : (count : Option ℕ) (ds : Items) → Names keys.Hours (quantities count ds)
names-quantities None ds = names-each keys.Hours whole_quantity (names-whole 0 most_quantity keys.Hours) ds
names-quantities (Some count) ds =
    names-test keys.Hours (eqb (items_len ds) count) (each whole_quantity ds) (names-each keys.Hours whole_quantity (names-whole 0 most_quantity keys.Hours) ds)

names-hours : (count : Option ℕ) (d : Data) → Names keys.Hours (hours count d)
unfolding hours
names-hours count d = names-bind keys.Hours (items keys.Hours d) (quantities count) (names-items keys.Hours d) (names-quantities count)

module _ {Y : Type 0} (key : Key) (d : Data) where
  code_field : (f : List ℕ → Read Y) (after : List ℕ → Key → Type 0) → ((x : List ℕ) → Refused (f x) (after x)) → Refused (code key d >>= f) (Field (IsText NamesCode) key d after)
  code_field f after later = field key (code key) (IsText NamesCode) (Reads-code key) (names-code key) d f after later

  day_field : (f : Date → Read Y) (after : Date → Key → Type 0) → ((x : Date) → Refused (f x) (after x)) → Refused (day key d >>= f) (Field (IsText NamesDay) key d after)
  day_field f after later = field key (day key) (IsText NamesDay) (Reads-day key) (names-day key) d f after later

  direction_field : (f : Direction → Read Y) (after : Direction → Key → Type 0) → ((x : Direction) → Refused (f x) (after x)) → Refused (direction key d >>= f) (Field (IsText NamesDirection) key d after)
  direction_field f after later = field key (direction key) (IsText NamesDirection) (Reads-direction key) (names-direction key) d f after later

  number_field : (low high : ℕ) (f : ℕ → Read Y) (after : ℕ → Key → Type 0) → ((x : ℕ) → Refused (f x) (after x)) → Refused (number low high key d >>= f) (Field (IsWhole low high) key d after)
  number_field low high f after later = field key (number low high key) (IsWhole low high) (Reads-number low high key) (names-number low high key) d f after later

  number_or_field : (usual low high : ℕ) (f : ℕ → Read Y) (after : ℕ → Key → Type 0) → ((x : ℕ) → Refused (f x) (after x)) → Refused (number_or usual low high key d >>= f) (FieldOr usual (IsWhole low high) key d after)
  number_or_field usual low high f after later =
      let stands = HasOr usual (IsWhole low high) key in
      let g = gets (number_or usual low high key) stands (Reads-number_or usual low high key) d in
      part (number_or usual low high key d) f (stands d) (Lacks (stands d) key) after g (lacks (number_or usual low high key d) (stands d) key g (names-number_or usual low high key d)) (λ x _. later x)

abbrev named_span : Span → Read Span
named_span s = Ok s

abbrev named_head : Head → Read Head
named_head h = Ok h

number_alone : (low high : ℕ) (key : Key) (d : Data) → Refused (number low high key d) (Lacks (Has (IsWhole low high) key d) key)
number_alone low high key d =
    lacks (number low high key d) (Has (IsWhole low high) key d) key (gets (number low high key) (Has (IsWhole low high) key) (Reads-number low high key) d) (names-number low high key d)

-- what follows a part follows its last step
then : {X Y Z : Type 0} (read : Read X) (g : X → Read Y) (f : Y → Read Z) → (read >>= λ x. g x >>= f) ≡ ((read >>= g) >>= f)
then (Ok x) g f = refl
then (Err key) g f = refl

span_field : {Y : Type 0} (d : Data) (f : Span → Read Y) (after : ℕ → ℕ → Key → Type 0) → ((first last : ℕ) → Refused (f (made_span first last)) (after first last)) → Refused (span d >>= f) (RefusesSpan d after)
unfolding span
span_field d f after later =
    let second = λ (first last : ℕ). named_span (made_span first last) in
    let first_step = λ (first : ℕ). number first last_hour keys.Last d >>= second first in
    like _ _ _ (then (number 1 last_hour keys.First d) first_step f) (number_field keys.First d 1 last_hour (λ first. first_step first >>= f) _ (λ first.
    like _ _ _ (then (number first last_hour keys.Last d) (second first) f) (number_field keys.Last d first last_hour (λ last. second first last >>= f) _ (later first))))

parts_field : {Y : Type 0} (d : Data) (g : ℕ → ℕ → Read Head) (f : Head → Read Y) (after : ℕ → Key → Type 0) → ((parts which : ℕ) → Refused (g parts which >>= f) (after parts))
    → Refused ((number_or 1 1 most_parts keys.Parts d >>= λ parts. number_or 1 1 parts keys.Part d >>= g parts) >>= f) (RefusesParts d after)
parts_field d g f after later =
    let second = λ (parts : ℕ). number_or 1 1 parts keys.Part d >>= g parts in
    like _ _ _ (then (number_or 1 1 most_parts keys.Parts d) second f) (number_or_field keys.Parts d 1 1 most_parts (λ parts. second parts >>= f) _ (λ parts.
    like _ _ _ (then (number_or 1 1 parts keys.Part d) (g parts) f) (number_or_field keys.Part d 1 1 parts (λ which. g parts which >>= f) _ (later parts))))

head_field : {Y : Type 0} (d : Data) (f : Head → Read Y) (after : ℕ → ℕ → ℕ → Key → Type 0)
    → ((point : List ℕ) (date : Date) (cycle first last parts which : ℕ) → Refused (f (made_head point date cycle (made_span first last) parts which)) (after first last parts)) → Refused (head d >>= f) (RefusesHead d after)
unfolding head
head_field d f after later =
    let fifth = λ (p : List ℕ) (w : Date) (c : ℕ) (s : Span) (parts which : ℕ). named_head (made_head p w c s parts which) in
    let fourth = λ (p : List ℕ) (w : Date) (c : ℕ) (s : Span). number_or 1 1 most_parts keys.Parts d >>= λ parts. number_or 1 1 parts keys.Part d >>= fifth p w c s parts in
    let third = λ (p : List ℕ) (w : Date) (c : ℕ). span d >>= fourth p w c in
    let second = λ (p : List ℕ) (w : Date). number 0 last_cycle keys.Cycle d >>= third p w in
    let first = λ (p : List ℕ). day keys.Day d >>= second p in
    like _ _ _ (then (code keys.Point d) first f) (code_field keys.Point d (λ p. first p >>= f) _ (λ p.
    like _ _ _ (then (day keys.Day d) (second p) f) (day_field keys.Day d (λ w. second p w >>= f) _ (λ w.
    like _ _ _ (then (number 0 last_cycle keys.Cycle d) (third p w) f) (number_field keys.Cycle d 0 last_cycle (λ c. third p w c >>= f) _ (λ c.
    like _ _ _ (then (span d) (fourth p w c) f) (span_field d (λ s. fourth p w c s >>= f) _ (λ begins ends.
    parts_field d (fifth p w c (made_span begins ends)) f (after begins ends) (later p w c begins ends)))))))))

-- ---- rows and lines

hours_alone : (count : ℕ) (d : Data) → Refused (hours (Some count) d) (Lacks (HasHours count d) keys.Hours)
hours_alone count d =
    lacks (hours (Some count) d) (HasHours count d) keys.Hours (record {
      takes = λ hs e. let h = hours_take (Some count) d hs e in record { stands = h.0; whole = h.1 };
      again = λ hs h. hours_again (Some count) d hs h.stands h.whole;
    }) (names-hours (Some count) d)

Reads-any_hours : Reads (hours None) (Has (AreElements (IsWhole 0 most_quantity)) keys.Hours)
Reads-any_hours = record { takes = λ d hs e. (hours_take None d hs e).0; again = λ d hs h. hours_again None d hs h tt }

hours_field : {Y : Type 0} (d : Data) (f : List ℕ → Read Y) (after : List ℕ → Key → Type 0) → ((x : List ℕ) → Refused (f x) (after x)) → Refused (hours None d >>= f) (Field (AreElements (IsWhole 0 most_quantity)) keys.Hours d after)
hours_field d f after later = field keys.Hours (hours None) (AreElements (IsWhole 0 most_quantity)) Reads-any_hours (names-hours None) d f after later

priority_alone : (d : Data) → Refused (number_or usual_priority 1 last_priority keys.Priority d) (Lacks (HasOr usual_priority (IsWhole 1 last_priority) keys.Priority d) keys.Priority)
priority_alone d =
    let read = number_or usual_priority 1 last_priority keys.Priority in
    let stands = HasOr usual_priority (IsWhole 1 last_priority) keys.Priority in
    lacks (read d) (stands d) keys.Priority (gets read stands (Reads-number_or usual_priority 1 last_priority keys.Priority) d) (names-number_or usual_priority 1 last_priority keys.Priority d)

row_refused : (key : Key) (count : ℕ) (d : Data) → Refused (row key count d) (RefusesRow key count d)
unfolding row
row_refused key count d =
    in_object key d _ _ (code_field keys.Initiating d _ _ (λ initiating. code_field keys.Matching d _ _ (λ matching. direction_field keys.Direction d _ _ (λ way.
    made (hours (Some count) d) _ _ (hours_alone count d)))))

nomination_line_refused : (d : Data) → Refused (nomination_line None d) (RefusesNominationLine d)
unfolding nomination_line
nomination_line_refused d =
    in_object keys.Lines d _ _ (code_field keys.Counterparty d _ _ (λ counterparty. direction_field keys.Direction d _ _ (λ way. hours_field d _ _ (λ quantities.
    made (number_or usual_priority 1 last_priority keys.Priority d) _ _ (priority_alone d)))))

line_for_refused : (count : ℕ) (d : Data) → Refused (line (Some count) d) (RefusesLineFor count d)
unfolding line
line_for_refused count d =
    in_object keys.Lines d _ _ (code_field keys.Counterparty d _ _ (λ counterparty. direction_field keys.Direction d _ _ (λ way.
    made (hours (Some count) d) _ _ (hours_alone count d))))

nomination_lines_refused : (d : Data) → Refused (lines (nomination_line None) d) (RefusesNominationLines d)
unfolding lines
nomination_lines_refused d =
    field keys.Lines (items keys.Lines) IsArray (Reads-items keys.Lines) (names-items keys.Lines) d (each (nomination_line None)) (Among IsNominationLine RefusesNominationLine)
    (among (nomination_line None) IsNominationLine RefusesNominationLine Reads-nomination_line nomination_line_refused)

lines_for_refused : (count : ℕ) (d : Data) → Refused (lines (line (Some count)) d) (RefusesLinesFor count d)
unfolding lines
lines_for_refused count d =
    field keys.Lines (items keys.Lines) IsArray (Reads-items keys.Lines) (names-items keys.Lines) d (each (line (Some count))) (Among (IsLineFor count) (RefusesLineFor count))
    (among (line (Some count)) (IsLineFor count) (RefusesLineFor count) (Reads-line_for count) (line_for_refused count))

-- ---- tables

limit_first : {X Y : Type 0} (key : Key) (b : Bool) (read : Read X) (f : X → Read Y) → cond b (Err key) (read >>= f) ≡ (cond b (Err key) read >>= f)
limit_first key true read f = refl
limit_first key false read f = refl

rows_gets : (key : Key) (first last : ℕ) (ds : Items) (rows : List Row) → Each (IsRowFor (covered first last)) ds rows → Gets (wanted key (result_ok (built first last rows))) (HasRows first last rows)
rows_gets key first last ds rows stand = record {
  takes = λ t e.
      makes first last rows t (All-from_recursion IsRow rows (all_of_each (IsRowFor (covered first last)) IsRow (IsRow-IsRowFor (covered first last)) ds rows stand))
      (some_of_ok (built first last rows) t (wanted_ok key (result_ok (built first last rows)) t e));
  again = λ t h. ap (λ (s : Result TableContents TableFault). wanted key (result_ok s)) (made_table first last rows t h);
}

module _ (most first last : ℕ) (key : Key) (d : Data) where
  abbrev count : ℕ
  count = covered first last

  abbrev last_step : List Row → Read TableContents
  last_step rows = wanted key (result_ok (built first last rows))

  abbrev after_elements : Items → Key → Type 0
  after_elements ds = Part (Each (IsRowFor count) ds) (Among (IsRowFor count) (RefusesRow key count) ds) (λ rows. Lacks (HasRows first last rows) key)

  elements_refused : (ds : Items) → Refused (each (row key count) ds >>= last_step) (after_elements ds)
  elements_refused ds =
      part (each (row key count) ds) last_step (Each (IsRowFor count) ds) (Among (IsRowFor count) (RefusesRow key count) ds) (λ rows. Lacks (HasRows first last rows) key)
      (each_gets (row key count) (IsRowFor count) (RefusesRow key count) (Reads-row key count) (row_refused key count) ds)
      (among (row key count) (IsRowFor count) (RefusesRow key count) (Reads-row key count) (row_refused key count) ds)
      (λ rows stand. lacks (last_step rows) (HasRows first last rows) key (rows_gets key first last ds rows stand) (names-wanted key (result_ok (built first last rows))))

  table_refused : Refused (table key most first last d) (RefusesTable most first last key d)
  unfolding table rows_of
  table_refused =
      field key (items key) IsArray (Reads-items key) (names-items key) d (λ ds. rows_of key most count ds >>= last_step) _
      (λ ds. like _ _ _ (limit_first key (nat_lt most (items_len ds)) (each (row key count) ds) last_step) (within key most (items_len ds) (each (row key count) ds >>= last_step) (after_elements ds) (elements_refused ds)))

-- ---- kinds

nomint_refused : (d : Data) → Refused (nomint d) (Refuses kinds.Nomint d)
unfolding nomint
nomint_refused d =
    code_field keys.Point d _ _ (λ point. code_field keys.Portfolio d _ _ (λ portfolio. day_field keys.Day d _ _ (λ date. number_field keys.Version d 1 last_version _ _ (λ version.
    made (lines (nomination_line None) d) _ _ (nomination_lines_refused d)))))

acknow_refused : (d : Data) → Refused (acknow d) (Refuses kinds.Acknow d)
unfolding acknow
acknow_refused d =
    code_field keys.Point d _ _ (λ point. code_field keys.Portfolio d _ _ (λ portfolio. day_field keys.Day d _ _ (λ date.
    made (number 1 last_version keys.Version d) _ _ (number_alone 1 last_version keys.Version d))))

nomres_refused : (d : Data) → Refused (nomres d) (Refuses kinds.Nomres d)
unfolding nomres
nomres_refused d =
    code_field keys.Point d _ _ (λ point. code_field keys.Portfolio d _ _ (λ portfolio. day_field keys.Day d _ _ (λ date. number_field keys.Cycle d 0 last_cycle _ _ (λ cycle.
    span_field d _ _ (λ first last. made (lines (line (Some (covered first last))) d) _ _ (lines_for_refused (covered first last) d))))))

delord_refused : (d : Data) → Refused (delord d) (Refuses kinds.Delord d)
unfolding delord
delord_refused d = head_field d _ _ (λ point date cycle first last parts which.
    let most = elements_of most_processed_elements parts in
    made (table keys.Processed most first last d) _ _ (table_refused most first last keys.Processed d))

delres_refused : (d : Data) → Refused (delres d) (Refuses kinds.Delres d)
unfolding delres
delres_refused d = head_field d _ _ (λ point date cycle first last parts which.
    let most = elements_of most_processed_elements parts in
    let most_confirmed = elements_of most_confirmed_elements parts in
    part (table keys.Processed most first last d) _ (HasTable most first last keys.Processed d) (RefusesTable most first last keys.Processed d) _
    (record { takes = table_takes keys.Processed most first last d; again = table_again keys.Processed most first last d })
    (table_refused most first last keys.Processed d)
    (λ processed _. made (table keys.Confirmed most_confirmed first last d) _ _ (table_refused most_confirmed first last keys.Confirmed d)))

pub kind_refused : (kind : Kind) (d : Data) → Refused (of_kind kind d) (Refuses kind d)
kind_refused kinds.Nomint d = made (nomint d) messages.Nomint (Refuses kinds.Nomint d) (nomint_refused d)
kind_refused kinds.Acknow d = made (acknow d) messages.Acknow (Refuses kinds.Acknow d) (acknow_refused d)
kind_refused kinds.Nomres d = made (nomres d) messages.Nomres (Refuses kinds.Nomres d) (nomres_refused d)
kind_refused kinds.Delord d = made (delord d) messages.Delord (Refuses kinds.Delord d) (delord_refused d)
kind_refused kinds.Delres d = made (delres d) messages.Delres (Refuses kinds.Delres d) (delres_refused d)

-- ---- bytes

abbrev answers : MessageFault → Result Message MessageFault
answers fault = Err fault

named_takes : (read : Read Message) (key : Key) → named read ≡ answers (faults.Field key) → read ≡ Err key
named_takes (Ok m) key e = absurd cc
named_takes (Err other) key e = let same : other ≡ key = cc in ap (λ k. Err k) same

named_kind : (read : Read Message) → named read ≡ answers faults.UnknownKind → ⊥
named_kind (Ok m) e = absurd cc
named_kind (Err key) e = absurd cc

kind_key : (bytes : List ℕ) (d : Data) (key : Key) → IsJson bytes d → (o : Option Kind) → kind_of d ≡ o → if_kind d o ≡ answers (faults.Field key) → IsRefusedFor bytes key
kind_key bytes d key json None is e = absurd cc
kind_key bytes d key json (Some kind) is e = record {
  value = d;
  json = json;
  kind = kind;
  named = kind_of-takes kind d is;
  refused = (kind_refused kind d).takes key (named_takes (of_kind kind d) key e);
}

kind_none : (bytes : List ℕ) (d : Data) → IsJson bytes d → (o : Option Kind) → kind_of d ≡ o → if_kind d o ≡ answers faults.UnknownKind → HasNoKind bytes
kind_none bytes d json None is e = record { value = d; json = json; none = λ kind of. let some = kind_of-again kind d of in absurd cc }
kind_none bytes d json (Some kind) is e = absurd (named_kind (of_kind kind d) e)

-- what decoding answers is what it makes of a value, where the fault is one of these
is_of_value : (bytes : List ℕ) (fault : MessageFault) → (answers faults.TooLarge ≡ answers fault → ⊥) → (answers faults.NotJson ≡ answers fault → ⊥) → (b : Bool) → nat_lt most_bytes (length bytes) ≡ b → (o : Option Data) → json_of bytes ≡ o
    → cond b (Err faults.TooLarge) (if_json o) ≡ answers fault → (d : Data) × IsJson bytes d × (if_kind d (kind_of d) ≡ answers fault)
is_of_value bytes fault large no_json true b-is o o-is e = absurd (large e)
is_of_value bytes fault large no_json false b-is None o-is e = absurd (no_json e)
is_of_value bytes fault large no_json false b-is (Some d) o-is e = (d, record { short = ltb-false most_bytes (length bytes) b-is; json = o-is }, e)

of_value : (bytes : List ℕ) (d : Data) → IsJson bytes d → decoded bytes ≡ if_kind d (kind_of d)
unfolding decoded
of_value bytes d json = ap (λ b. cond b (Err faults.TooLarge) (if_json (json_of bytes))) (le-ltb most_bytes (length bytes) json.short) ∙ ap if_json json.json

key_takes : (bytes : List ℕ) (key : Key) → decoded bytes ≡ answers (faults.Field key) → IsRefusedFor bytes key
unfolding decoded
key_takes bytes key e =
    let it = is_of_value bytes (faults.Field key) (λ e. absurd cc) (λ e. absurd cc) (nat_lt most_bytes (length bytes)) refl (json_of bytes) refl e in
    kind_key bytes it.0 key it.1 (kind_of it.0) refl it.2

key_again : (bytes : List ℕ) (key : Key) → IsRefusedFor bytes key → decoded bytes ≡ answers (faults.Field key)
key_again bytes key h =
    of_value bytes h.value h.json ∙ ap (if_kind h.value) (kind_of-again h.kind h.value h.named) ∙ ap (λ (s : Read Message). named s) ((kind_refused h.kind h.value).again key h.refused)

none_takes : (bytes : List ℕ) → decoded bytes ≡ answers faults.UnknownKind → HasNoKind bytes
unfolding decoded
none_takes bytes e =
    let it = is_of_value bytes faults.UnknownKind (λ e. absurd cc) (λ e. absurd cc) (nat_lt most_bytes (length bytes)) refl (json_of bytes) refl e in
    kind_none bytes it.0 it.1 (kind_of it.0) refl it.2

no_kind : (d : Data) (o : Option Kind) → kind_of d ≡ o → ((kind : Kind) → IsOfKind kind d → ⊥) → if_kind d o ≡ answers faults.UnknownKind
no_kind d None is none = refl
no_kind d (Some kind) is none = absurd (none kind (kind_of-takes kind d is))

none_again : (bytes : List ℕ) → HasNoKind bytes → decoded bytes ≡ answers faults.UnknownKind
none_again bytes h = of_value bytes h.value h.json ∙ no_kind h.value (kind_of h.value) refl h.none

pub names_first_key : NamesFirstKey
names_first_key bytes key = (key_takes bytes key, key_again bytes key)

pub misses_kind : MissesKind
misses_kind bytes = (none_takes bytes, none_again bytes)
