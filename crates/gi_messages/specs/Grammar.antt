-- Which JSON values stand for which messages, field by field and apart from how they are read.
use Rattle.std.specs.Prelude.{◌≡◌, ◌⊎◌, ℕ, ◌≤◌, List, [], ◌∷◌, length, All, Some, None}
use Rattle.std.specs.List.Sorted.{IsPermutation}
use Rattle.serde_json.specs.Data.{Data, number, unsigned, string, array, Items, no_items, item}
use Rattle.serde_json.specs.Find.{get}
use Rattle.jiff_core.specs.declared.civil.date.Date.{Date}
use Rattle.gi_day.specs.Day.{IsGasYear, IsDayText}
use Rattle.gi_pairs.specs.Code.{IsCode}
use Rattle.gi_pairs.specs.Direction.{direction_text}
use Rattle.gi_pairs.specs.Table.{TableContents, IsTable, covered}
use Rattle.gi_pairs.specs.declared.direction.Direction.{Direction}
use Rattle.gi_pairs.specs.Quantity.{IsQuantity, most_quantity}
use Rattle.gi_messages.specs.Limits.{elements_of, last_cycle, last_priority, last_version, most_bytes, most_confirmed_elements, few_lines, most_parts, most_processed_elements, usual_priority}
use Rattle.gi_pairs.specs.declared.row.Row.{Row}
use Rattle.gi_pairs.specs.Limits.{last_hour}
use Rattle.gi_messages.specs.declared.key.Key.{Key}
use Rattle.gi_messages.specs.declared.key.Key.TheVariants as keys
use Rattle.gi_messages.specs.declared.kind.Kind.{Kind}
use Rattle.gi_messages.specs.declared.kind.Kind.TheVariants as kinds
use Rattle.gi_messages.specs.declared.line.Line.{Line}
use Rattle.gi_messages.specs.declared.nomination_line.NominationLine.{NominationLine}
use Rattle.gi_messages.specs.declared.message.Nomint.{Nomint}
use Rattle.gi_messages.specs.declared.message.Acknow.{Acknow}
use Rattle.gi_messages.specs.declared.message.Nomres.{Nomres}
use Rattle.gi_messages.specs.declared.message.Delord.{Delord}
use Rattle.gi_messages.specs.declared.message.Delres.{Delres}
use Rattle.gi_messages.specs.declared.message.Message.{Message}
use Rattle.gi_messages.specs.declared.message.Message.TheVariants as messages
use Rattle.gi_messages.specs.Json.{json_of}
use Rattle.gi_messages.specs.Key.{key_text}
use Rattle.gi_messages.specs.Kind.{kind_text}

-- the object has a value in the relation with x at the key
pub record Has {X : Type 0} (Stands : Data → X → Type 0) (key : Key) (d : Data) (x : X) : Type 0 where
  pub value : Data
  pub found : get (key_text key) d ≡ Some value
  pub stands : Stands value x

-- the same, or the object has no such key and x is the usual value
abbrev pub HasOr : {X : Type 0} → X → (Data → X → Type 0) → Key → Data → X → Type 0
HasOr usual Stands key d x = ((get (key_text key) d ≡ None) × (x ≡ usual)) ⊎ Has Stands key d x

-- a text that names x
pub record IsText {X : Type 0} (Names : List ℕ → X → Type 0) (d : Data) (x : X) : Type 0 where
  pub text : List ℕ
  pub written : d ≡ string text
  pub names : Names text x

-- a code is its own text
abbrev pub NamesCode : List ℕ → List ℕ → Type 0
NamesCode text code = IsCode text × (text ≡ code)

-- a gas day is written `YYYY-MM-DD`, and a direction `IM` or `MI`
abbrev pub NamesDay : List ℕ → Date → Type 0
NamesDay text day = IsGasYear day.year × IsDayText day text

abbrev pub NamesDirection : List ℕ → Direction → Type 0
NamesDirection text direction = text ≡ direction_text direction

-- a whole number from low to high, written without sign, fraction and exponent
pub record IsWhole (low high : ℕ) (d : Data) (n : ℕ) : Type 0 where
  pub written : d ≡ number (unsigned n)
  pub from : low ≤ n
  pub to : n ≤ high

-- the elements stand for these, one after the other
abbrev pub Each : {X : Type 0} → (Data → X → Type 0) → Items → List X → Type 0
Each Stands no_items [] = Unit {0}
Each Stands no_items (x ∷ xs) = ⊥
Each Stands (item d ds) [] = ⊥
Each Stands (item d ds) (x ∷ xs) = Stands d x × Each Stands ds xs

-- an array whose elements stand for these
pub record AreElements {X : Type 0} (Stands : Data → X → Type 0) (d : Data) (xs : List X) : Type 0 where
  pub elements : Items
  pub written : d ≡ array elements
  pub each : Each Stands elements xs

-- a row for so many hours: an object with a pair, a direction and one quantity for each hour
pub record IsRowFor (hours : ℕ) (d : Data) (row : Row) : Type 0 where
  pub initiating : Has (IsText NamesCode) keys.Initiating d row.pair.initiating
  pub matching : Has (IsText NamesCode) keys.Matching d row.pair.matching
  pub direction : Has (IsText NamesDirection) keys.Direction d row.direction
  pub quantities : Has (AreElements (IsWhole 0 most_quantity)) keys.Hours d row.hours
  pub whole : length row.hours ≡ hours

-- the table for the hours from first to last that has these rows, whichever order they come in
pub record HasRows (first last : ℕ) (rows : List Row) (t : TableContents) : Type 0 where
  pub begins : t.first ≡ first
  pub ends : t.last ≡ last
  pub same : IsPermutation rows t.rows
  pub table : IsTable t

-- an array of at most so many rows, at a key, that make the table
pub record HasTable (most first last : ℕ) (key : Key) (d : Data) (t : TableContents) : Type 0 where
  pub rows : List Row
  pub array : Has (AreElements (IsRowFor (covered first last))) key d rows
  pub few : length rows ≤ most
  pub makes : HasRows first last rows t

-- a line: an object with a counterparty, a direction and quantities
pub record IsLine (d : Data) (line : Line) : Type 0 where
  pub counterparty : Has (IsText NamesCode) keys.Counterparty d line.counterparty
  pub direction : Has (IsText NamesDirection) keys.Direction d line.direction
  pub quantities : Has (AreElements (IsWhole 0 most_quantity)) keys.Hours d line.hours

-- a line for so many hours: one quantity for each of them
pub record IsLineFor (hours : ℕ) (d : Data) (line : Line) : Type 0 where
  pub stands : IsLine d line
  pub whole : length line.hours ≡ hours

-- a line of a nomination: it is of any length, and its priority is a whole number from 1 to 9, or the key is missing and it is 5
pub record IsNominationLine (d : Data) (line : NominationLine) : Type 0 where
  pub counterparty : Has (IsText NamesCode) keys.Counterparty d line.counterparty
  pub direction : Has (IsText NamesDirection) keys.Direction d line.direction
  pub quantities : Has (AreElements (IsWhole 0 most_quantity)) keys.Hours d line.hours
  pub priority : HasOr usual_priority (IsWhole 1 last_priority) keys.Priority d line.priority

-- the lines in the order in which they came
pub record IsNomint (d : Data) (m : Nomint) : Type 0 where
  pub point : Has (IsText NamesCode) keys.Point d m.point
  pub portfolio : Has (IsText NamesCode) keys.Portfolio d m.portfolio
  pub day : Has (IsText NamesDay) keys.Day d m.day
  pub version : Has (IsWhole 1 last_version) keys.Version d m.version
  pub lines : Has (AreElements IsNominationLine) keys.Lines d m.lines

pub record IsAcknow (d : Data) (m : Acknow) : Type 0 where
  pub point : Has (IsText NamesCode) keys.Point d m.point
  pub portfolio : Has (IsText NamesCode) keys.Portfolio d m.portfolio
  pub day : Has (IsText NamesDay) keys.Day d m.day
  pub version : Has (IsWhole 1 last_version) keys.Version d m.version

-- each line is for the hours of the message
pub record IsNomres (d : Data) (m : Nomres) : Type 0 where
  pub point : Has (IsText NamesCode) keys.Point d m.point
  pub portfolio : Has (IsText NamesCode) keys.Portfolio d m.portfolio
  pub day : Has (IsText NamesDay) keys.Day d m.day
  pub cycle : Has (IsWhole 0 last_cycle) keys.Cycle d m.cycle
  pub first : Has (IsWhole 1 last_hour) keys.First d m.first
  pub last : Has (IsWhole m.first last_hour) keys.Last d m.last
  pub lines : Has (AreElements (IsLineFor (covered m.first m.last))) keys.Lines d m.lines

-- where the key `parts` or `part` is missing, it is 1; in one of several parts the tables have fewer rows
pub record IsDelord (d : Data) (m : Delord) : Type 0 where
  pub point : Has (IsText NamesCode) keys.Point d m.point
  pub day : Has (IsText NamesDay) keys.Day d m.day
  pub cycle : Has (IsWhole 0 last_cycle) keys.Cycle d m.cycle
  pub first : Has (IsWhole 1 last_hour) keys.First d m.processed.first
  pub last : Has (IsWhole m.processed.first last_hour) keys.Last d m.processed.last
  pub parts : HasOr 1 (IsWhole 1 most_parts) keys.Parts d m.parts
  pub part : HasOr 1 (IsWhole 1 m.parts) keys.Part d m.part
  pub processed : HasTable (elements_of most_processed_elements m.parts) m.processed.first m.processed.last keys.Processed d m.processed

-- both tables are for the hours of the message
pub record IsDelres (d : Data) (m : Delres) : Type 0 where
  pub point : Has (IsText NamesCode) keys.Point d m.point
  pub day : Has (IsText NamesDay) keys.Day d m.day
  pub cycle : Has (IsWhole 0 last_cycle) keys.Cycle d m.cycle
  pub first : Has (IsWhole 1 last_hour) keys.First d m.processed.first
  pub last : Has (IsWhole m.processed.first last_hour) keys.Last d m.processed.last
  pub parts : HasOr 1 (IsWhole 1 most_parts) keys.Parts d m.parts
  pub part : HasOr 1 (IsWhole 1 m.parts) keys.Part d m.part
  pub processed : HasTable (elements_of most_processed_elements m.parts) m.processed.first m.processed.last keys.Processed d m.processed
  pub confirmed : HasTable (elements_of most_confirmed_elements m.parts) m.processed.first m.processed.last keys.Confirmed d m.confirmed

-- an object whose `kind` is the kind's name
abbrev pub IsOfKind : Kind → Data → Type 0
IsOfKind kind d = get (key_text keys.Kind) d ≡ Some (string (kind_text kind))

-- the value stands for the message; keys that no field has mean nothing
abbrev pub IsMessage : Data → Message → Type 0
IsMessage d (messages.Nomint m) = IsOfKind kinds.Nomint d × IsNomint d m
IsMessage d (messages.Acknow m) = IsOfKind kinds.Acknow d × IsAcknow d m
IsMessage d (messages.Nomres m) = IsOfKind kinds.Nomres d × IsNomres d m
IsMessage d (messages.Delord m) = IsOfKind kinds.Delord d × IsDelord d m
IsMessage d (messages.Delres m) = IsOfKind kinds.Delres d × IsDelres d m

-- the bytes are JSON text of the message, in at most 16 MiB
pub record Spells (bytes : List ℕ) (m : Message) : Type 0 where
  pub short : length bytes ≤ most_bytes
  pub value : Data
  pub json : json_of bytes ≡ Some value
  pub stands : IsMessage value m

-- some value stands for the message
abbrev pub IsWritable : Message → Type 0
IsWritable m = (d : Data) × IsMessage d m

-- a line that can be written: its counterparty is a code, and its hours are quantities
pub record FitsLine (line : Line) : Type 0 where
  pub counterparty : IsCode line.counterparty
  pub quantities : All IsQuantity line.hours

-- a line of a nomination that can be written, which has a priority besides
pub record FitsNominationLine (line : NominationLine) : Type 0 where
  pub counterparty : IsCode line.counterparty
  pub quantities : All IsQuantity line.hours
  pub from : 1 ≤ line.priority
  pub to : line.priority ≤ last_priority

-- A message that can be written: codes, a gas day, a version or a cycle of it, lines, each for the hours of the message where it names hours, which part
-- it is of how many, and tables of not too many rows, for the same hours.
pub record FitsNomint (m : Nomint) : Type 0 where
  pub point : IsCode m.point
  pub portfolio : IsCode m.portfolio
  pub day : IsGasYear m.day.year
  pub from : 1 ≤ m.version
  pub to : m.version ≤ last_version
  pub lines : All FitsNominationLine m.lines

pub record FitsAcknow (m : Acknow) : Type 0 where
  pub point : IsCode m.point
  pub portfolio : IsCode m.portfolio
  pub day : IsGasYear m.day.year
  pub from : 1 ≤ m.version
  pub to : m.version ≤ last_version

pub record FitsNomres (m : Nomres) : Type 0 where
  pub point : IsCode m.point
  pub portfolio : IsCode m.portfolio
  pub day : IsGasYear m.day.year
  pub cycle : m.cycle ≤ last_cycle
  pub begins : 1 ≤ m.first
  pub ordered : m.first ≤ m.last
  pub ends : m.last ≤ last_hour
  pub lines : All FitsLine m.lines
  pub whole : All (λ l. length l.hours ≡ covered m.first m.last) m.lines

pub record FitsDelord (m : Delord) : Type 0 where
  pub point : IsCode m.point
  pub day : IsGasYear m.day.year
  pub cycle : m.cycle ≤ last_cycle
  pub few_parts : m.parts ≤ most_parts
  pub part_from : 1 ≤ m.part
  pub part_to : m.part ≤ m.parts
  pub processed : IsTable m.processed
  pub few : length m.processed.rows ≤ elements_of most_processed_elements m.parts

pub record FitsDelres (m : Delres) : Type 0 where
  pub point : IsCode m.point
  pub day : IsGasYear m.day.year
  pub cycle : m.cycle ≤ last_cycle
  pub few_parts : m.parts ≤ most_parts
  pub part_from : 1 ≤ m.part
  pub part_to : m.part ≤ m.parts
  pub processed : IsTable m.processed
  pub few : length m.processed.rows ≤ elements_of most_processed_elements m.parts
  pub confirmed : IsTable m.confirmed
  pub few_confirmed : length m.confirmed.rows ≤ elements_of most_confirmed_elements m.parts
  pub begins : m.confirmed.first ≡ m.processed.first
  pub ends : m.confirmed.last ≡ m.processed.last

abbrev pub Fits : Message → Type 0
Fits (messages.Nomint m) = FitsNomint m
Fits (messages.Acknow m) = FitsAcknow m
Fits (messages.Nomres m) = FitsNomres m
Fits (messages.Delord m) = FitsDelord m
Fits (messages.Delres m) = FitsDelres m

-- A message with few lines. Each line of a nomination, which could have any number of quantities, has no more than the
-- longest gas day has hours.
abbrev pub HasFewLines : Message → Type 0
HasFewLines (messages.Nomint m) = (length m.lines ≤ few_lines) × All (λ l. length l.hours ≤ last_hour) m.lines
HasFewLines (messages.Acknow m) = Unit {0}
HasFewLines (messages.Nomres m) = length m.lines ≤ few_lines
HasFewLines (messages.Delord m) = Unit {0}
HasFewLines (messages.Delres m) = Unit {0}
