-- Reading the fields of a JSON object, one after another: the first that is missing or wrong is named by its key.
use Rattle.std.specs.Prelude.{◌≡◌, ℕ, List, [], ◌∷◌, ◌&&◌, ◌==◌, is_some, nat_lt, Option, Some, None, Result, Ok, Err, nat_le, if◌then◌else◌, option_and_then}
use Rattle.std.specs.Result.{result_ok}
use Rattle.serde_json.specs.Data.{Data, Items, no_items, item}
use Rattle.serde_json.specs.Events.{items_len}
use Rattle.serde_json.specs.Find.{get, as_number, as_u64, as_str, as_array, as_object}
use Rattle.jiff_core.specs.declared.civil.date.Date.{Date}
use Rattle.gi_pairs.specs.Direction.{direction_named}
use Rattle.gi_pairs.specs.declared.direction.Direction.{Direction}
use Rattle.gi_pairs.specs.declared.row.Row.{Row}
use Rattle.gi_pairs.specs.Table.{TableContents, covered, built}
use Rattle.gi_pairs.specs.Limits.{last_hour}
use Rattle.gi_pairs.specs.Quantity.{most_quantity}
use Rattle.gi_messages.specs.declared.key.Key.{Key}
use Rattle.gi_messages.specs.declared.key.Key.TheVariants.{First, Last, Lines, Counterparty, Initiating, Matching, Direction as DirectionKey, Hours, Priority}
use Rattle.gi_messages.specs.declared.head.Span.{Span}
use Rattle.gi_messages.specs.declared.line.Line.{Line}
use Rattle.gi_messages.specs.declared.nomination_line.NominationLine.{NominationLine}
use Rattle.gi_messages.specs.declared.fault.FieldFault.{FieldFault}
use Rattle.gi_messages.specs.declared.fault.FieldFault.TheVariants as fault
use Rattle.gi_messages.specs.Key.{key_text}
use Rattle.gi_messages.specs.Limits.{last_priority, usual_priority}
use Rattle.gi_messages.specs.Dates.{day_of}
use Rattle.gi_messages.specs.Names.{code_of}

-- what was read, or the key of the first fault
abbrev pub Read : Type 0 → Type 0
Read X = Result X Key

infixl 10 ◌>>=◌
abbrev pub ◌>>=◌ : {X Y : Type 0} → Read X → (X → Read Y) → Read Y
(Ok x) >>= f = f x
(Err key) >>= f = Err key

-- a value where there is one, else the key is named
abbrev pub wanted : {X : Type 0} → Key → Option X → Read X
wanted key (Some x) = Ok x
wanted key None = Err key

-- What a function returned, seen by view, is what reading gives.
abbrev pub Finds : {X Y : Type 0} → (X → Y) → Read X → Read Y → Type 0
Finds view (Ok x) read = read ≡ Ok (view x)
Finds view (Err key) read = read ≡ Err key

-- The same, unless memory ran out.
abbrev pub Fails : {Y : Type 0} → FieldFault → Read Y → Type 0
Fails (fault.Wrong key) read = read ≡ Err key
Fails fault.OutOfMemory read = Unit {0}

abbrev pub Gives : {X Y : Type 0} → (X → Y) → Result X FieldFault → Read Y → Type 0
Gives view (Ok x) read = read ≡ Ok (view x)
Gives view (Err e) read = Fails e read

-- the value at a key of an object
abbrev pub member_at : Key → Data → Read Data
member_at key d = wanted key (get (key_text key) d)

-- n where it lies from low to high
abbrev pub limited : ℕ → ℕ → ℕ → Option ℕ
limited low high n = if nat_le low n && nat_le n high then Some n else None

-- a number that is written without sign, fraction and exponent
abbrev pub whole : ℕ → ℕ → Key → Data → Read ℕ
whole low high key d = wanted key (option_and_then (limited low high) (option_and_then as_u64 (as_number d)))

-- the whole number at a key
unfoldable pub number : ℕ → ℕ → Key → Data → Read ℕ
number low high key d = member_at key d >>= whole low high key

-- the whole number at a key, or the usual one where the key is missing
abbrev pub or_usual : ℕ → (Data → Read ℕ) → Option Data → Read ℕ
or_usual usual read None = Ok usual
or_usual usual read (Some d) = read d

unfoldable pub number_or : ℕ → ℕ → ℕ → Key → Data → Read ℕ
number_or usual low high key d = or_usual usual (whole low high key) (get (key_text key) d)

-- the text at a key
unfoldable pub text : Key → Data → Read (List ℕ)
text key d = do
  v ← member_at key d
  wanted key (as_str v)

-- the code, the gas day and the direction that the text at a key names
unfoldable pub code : Key → Data → Read (List ℕ)
code key d = do
  name ← text key d
  wanted key (code_of name)

unfoldable pub day : Key → Data → Read Date
day key d = do
  name ← text key d
  wanted key (day_of name)

unfoldable pub direction : Key → Data → Read Direction
direction key d = do
  name ← text key d
  wanted key (direction_named name)

-- the hours that an object names
unfoldable pub span : Data → Read Span
span d = do
  first ← number 1 last_hour First d
  last ← number first last_hour Last d
  Ok (record { first = first; last = last })

-- the elements of the array at a key
unfoldable pub items : Key → Data → Read Items
items key d = do
  v ← member_at key d
  wanted key (as_array v)

-- what f reads of each element, one after the other
unfoldable pub each : {X : Type 0} → (Data → Read X) → Items → Read (List X)
each f no_items = Ok []
each f (item d ds) = do
  x ← f d
  xs ← each f ds
  Ok (x ∷ xs)

-- one quantity for each of so many hours, or any number of quantities where none is asked for
abbrev pub quantities : Option ℕ → Items → Read (List ℕ)
quantities None ds = each (whole 0 most_quantity Hours) ds
quantities (Some count) ds = if items_len ds == count then each (whole 0 most_quantity Hours) ds else Err Hours

unfoldable pub hours : Option ℕ → Data → Read (List ℕ)
hours count d = do
  ds ← items Hours d
  quantities count ds

-- a row for so many hours; an element that is no object is wrong under the array's key
unfoldable pub row : Key → ℕ → Data → Read Row
row array_key count d =
    if is_some (as_object d) then (do
      initiating ← code Initiating d
      matching ← code Matching d
      direction ← direction DirectionKey d
      hours ← hours (Some count) d
      Ok (record { pair = record { initiating = initiating; matching = matching }; direction = direction; hours = hours }))
    else Err array_key

-- the rows of an array, of which there are not too many
unfoldable pub rows_of : Key → ℕ → ℕ → Items → Read (List Row)
rows_of key limit count ds = if nat_lt limit (items_len ds) then Err key else each (row key count) ds

-- the rows at a key
abbrev pub rows_at : Key → ℕ → ℕ → Data → Read (List Row)
rows_at key limit count d = items key d >>= rows_of key limit count

-- the table of the rows at a key, whose keys differ
unfoldable pub table : Key → ℕ → ℕ → ℕ → Data → Read TableContents
table key limit first last d = do
  ds ← items key d
  rows ← rows_of key limit (covered first last) ds
  wanted key (result_ok (built first last rows))

-- a line, for so many hours or of any length; an element that is no object is wrong under `lines`
unfoldable pub line : Option ℕ → Data → Read Line
line count d =
    if is_some (as_object d) then (do
      counterparty ← code Counterparty d
      direction ← direction DirectionKey d
      hours ← hours count d
      Ok (record { counterparty = counterparty; direction = direction; hours = hours }))
    else Err Lines

-- a line of a nomination, in the same way
unfoldable pub nomination_line : Option ℕ → Data → Read NominationLine
nomination_line count d =
    if is_some (as_object d) then (do
      counterparty ← code Counterparty d
      direction ← direction DirectionKey d
      hours ← hours count d
      priority ← number_or usual_priority 1 last_priority Priority d
      Ok (record { counterparty = counterparty; direction = direction; hours = hours; priority = priority }))
    else Err Lines

-- the lines, each as f reads it, in the order in which they came
unfoldable pub lines : {X : Type 0} → (Data → Read X) → Data → Read (List X)
lines f d = do
  ds ← items Lines d
  each f ds
