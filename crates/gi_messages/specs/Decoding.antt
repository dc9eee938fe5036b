-- Which message bytes are, or what is wrong with them first.
use Rattle.std.specs.Prelude.{◌≡◌, ℕ, List, length, nat_lt, Option, Some, None, option_and_then, Result, Ok, Err, if◌then◌else◌}
use Rattle.serde_json.specs.Data.{Data}
use Rattle.serde_json.specs.Find.{get, as_str}
use Rattle.gi_pairs.specs.Table.{TableContents, covered}
use Rattle.gi_messages.specs.declared.key.Key.TheVariants.{Point, Portfolio, Day, Version, Cycle, Parts, Part, Processed, Confirmed}
use Rattle.gi_messages.specs.declared.key.Key.TheVariants as keys
use Rattle.gi_messages.specs.declared.head.Head.{Head}
use Rattle.gi_messages.specs.declared.head.Span.{Span}
use Rattle.gi_messages.specs.declared.kind.Kind.{Kind}
use Rattle.gi_messages.specs.declared.kind.Kind.TheVariants as kinds
use Rattle.gi_messages.specs.Limits.{elements_of, last_cycle, last_version, most_bytes, most_confirmed_elements, most_parts, most_processed_elements}
use Rattle.gi_messages.specs.declared.message.Nomint.{Nomint}
use Rattle.gi_messages.specs.declared.message.Acknow.{Acknow}
use Rattle.gi_messages.specs.declared.message.Nomres.{Nomres}
use Rattle.gi_messages.specs.declared.message.Delord.{Delord}
use Rattle.gi_messages.specs.declared.message.Delres.{Delres}
use Rattle.gi_messages.specs.declared.message.Message.{Message}
use Rattle.gi_messages.specs.declared.message.Message.TheVariants as messages
use Rattle.gi_messages.specs.declared.message_fault.MessageFault.{MessageFault}
use Rattle.gi_messages.specs.declared.message_fault.MessageFault.TheVariants as faults
use Rattle.gi_messages.specs.Json.{json_of}
use Rattle.gi_messages.specs.Key.{key_text}
use Rattle.gi_messages.specs.Kind.{kind_named}
use Rattle.gi_messages.specs.Reading.{Read, ◌>>=◌, code, day, number, number_or, span, line, nomination_line, lines, table}

-- the fields of each kind, in their order
unfoldable pub nomint : Data → Read Nomint
nomint d = do
  point ← code Point d
  portfolio ← code Portfolio d
  date ← day Day d
  version ← number 1 last_version Version d
  lines ← lines (nomination_line None) d
  Ok (record { point = point; portfolio = portfolio; day = date; version = version; lines = lines })

unfoldable pub acknow : Data → Read Acknow
acknow d = do
  point ← code Point d
  portfolio ← code Portfolio d
  date ← day Day d
  version ← number 1 last_version Version d
  Ok (record { point = point; portfolio = portfolio; day = date; version = version })

unfoldable pub nomres : Data → Read Nomres
nomres d = do
  point ← code Point d
  portfolio ← code Portfolio d
  date ← day Day d
  cycle ← number 0 last_cycle Cycle d
  span ← span d
  lines ← lines (line (Some (covered span.first span.last))) d
  Ok (record { point = point; portfolio = portfolio; day = date; cycle = cycle; first = span.first; last = span.last; lines = lines })

-- what an order and a response begin with
unfoldable pub head : Data → Read Head
head d = do
  point ← code Point d
  date ← day Day d
  cycle ← number 0 last_cycle Cycle d
  span ← span d
  parts ← number_or 1 1 most_parts Parts d
  part ← number_or 1 1 parts Part d
  Ok (record { point = point; day = date; cycle = cycle; span = span; parts = parts; part = part })

-- their tables, of one of so many parts
abbrev pub processed : ℕ → Span → Data → Read TableContents
processed parts span d = table Processed (elements_of most_processed_elements parts) span.first span.last d

abbrev pub confirmed : ℕ → Span → Data → Read TableContents
confirmed parts span d = table Confirmed (elements_of most_confirmed_elements parts) span.first span.last d

unfoldable pub delord : Data → Read Delord
delord d = do
  head ← head d
  processed ← processed head.parts head.span d
  Ok (record { point = head.point; day = head.day; cycle = head.cycle; parts = head.parts; part = head.part; processed = processed })

unfoldable pub delres : Data → Read Delres
delres d = do
  head ← head d
  processed ← processed head.parts head.span d
  confirmed ← confirmed head.parts head.span d
  Ok (record { point = head.point; day = head.day; cycle = head.cycle; parts = head.parts; part = head.part; processed = processed; confirmed = confirmed })

-- the kind that an object names
unfoldable pub kind_of : Data → Option Kind
kind_of d = option_and_then kind_named (option_and_then as_str (get (key_text keys.Kind) d))

-- a message of the kind
abbrev pub of_kind : Kind → Data → Read Message
of_kind kinds.Nomint d = nomint d >>= λ m. Ok (messages.Nomint m)
of_kind kinds.Acknow d = acknow d >>= λ m. Ok (messages.Acknow m)
of_kind kinds.Nomres d = nomres d >>= λ m. Ok (messages.Nomres m)
of_kind kinds.Delord d = delord d >>= λ m. Ok (messages.Delord m)
of_kind kinds.Delres d = delres d >>= λ m. Ok (messages.Delres m)

-- the same, where a field is wrong
abbrev pub named : {X : Type 0} → Read X → Result X MessageFault
named (Ok x) = Ok x
named (Err key) = Err (faults.Field key)

abbrev pub if_kind : Data → Option Kind → Result Message MessageFault
if_kind d None = Err faults.UnknownKind
if_kind d (Some kind) = named (of_kind kind d)

abbrev pub if_json : Option Data → Result Message MessageFault
if_json None = Err faults.NotJson
if_json (Some d) = if_kind d (kind_of d)

unfoldable pub decoded : List ℕ → Result Message MessageFault
decoded bytes = if nat_lt most_bytes (length bytes) then Err faults.TooLarge else if_json (json_of bytes)

-- What a function returned is what decoding gives, unless memory ran out.
abbrev pub Fails : {Y : Type 0} → MessageFault → Result Y MessageFault → Type 0
Fails faults.OutOfMemory read = Unit {0}
Fails fault read = read ≡ Err fault

abbrev pub Gives : {Y : Type 0} → Result Y MessageFault → Result Y MessageFault → Type 0
Gives (Ok x) read = read ≡ Ok x
Gives (Err e) read = Fails e read
