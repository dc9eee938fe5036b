-- Which key a message is refused for, field by field and apart from how it is read: each earlier field of its kind has a value
-- in its relation and the named one has none; in rows and lines it is the first element that is none, and its first such key.
use Rattle.std.specs.Prelude.{◌≡◌, ◌≤◌, ◌⊎◌, ℕ, List, length, Some}
use Rattle.serde_json.specs.Data.{Data, array, object, Items, no_items, item, Members}
use Rattle.serde_json.specs.Events.{items_len}
use Rattle.gi_pairs.specs.Limits.{last_hour}
use Rattle.gi_pairs.specs.Quantity.{most_quantity}
use Rattle.gi_pairs.specs.Table.{covered}
use Rattle.gi_messages.specs.declared.key.Key.{Key}
use Rattle.gi_messages.specs.declared.key.Key.TheVariants as keys
use Rattle.gi_messages.specs.declared.kind.Kind.{Kind}
use Rattle.gi_messages.specs.declared.kind.Kind.TheVariants as kinds
use Rattle.gi_messages.specs.Grammar.{AreElements, Each, Has, HasOr, HasRows, HasTable, IsLineFor, IsNominationLine, IsOfKind, IsRowFor, IsText, IsWhole, NamesCode, NamesDay, NamesDirection}
use Rattle.gi_messages.specs.Json.{json_of}
use Rattle.gi_messages.specs.Limits.{elements_of, last_cycle, last_priority, last_version, most_bytes, most_confirmed_elements, most_parts, most_processed_elements, usual_priority}

-- A part says itself which key is named where it has no value; where it has one, what comes after it says so.
abbrev pub Part : {X : Type 0} → (X → Type 0) → (Key → Type 0) → (X → Key → Type 0) → Key → Type 0
Part {X = X} Stands Refuses after named = Refuses named ⊎ ((x : X) × Stands x × after x named)

-- nothing has the value, and this key is named
abbrev pub Lacks : {X : Type 0} → (X → Type 0) → Key → Key → Type 0
Lacks {X = X} Stands key named = (named ≡ key) × ((x : X) → ¬ Stands x)

-- a part that names one key
abbrev pub Then : {X : Type 0} → (X → Type 0) → Key → (X → Key → Type 0) → Key → Type 0
Then Stands key after = Part Stands (Lacks Stands key) after

-- a field, from its key and what its value stands for
abbrev pub Field : {X : Type 0} → (Data → X → Type 0) → Key → Data → (X → Key → Type 0) → Key → Type 0
Field Stands key d after = Then (Has Stands key d) key after

-- the same, where the key may be missing
abbrev pub FieldOr : {X : Type 0} → X → (Data → X → Type 0) → Key → Data → (X → Key → Type 0) → Key → Type 0
FieldOr usual Stands key d after = Then (HasOr usual Stands key d) key after

abbrev pub IsObject : Data → Members → Type 0
IsObject d members = d ≡ object members

abbrev pub IsArray : Data → Items → Type 0
IsArray d elements = d ≡ array elements

-- the first element that stands for nothing says which key is named
abbrev pub Among : {X : Type 0} → (Data → X → Type 0) → (Data → Key → Type 0) → Items → Key → Type 0
Among Stands Refuses no_items named = ⊥
Among Stands Refuses (item d ds) named = Part (Stands d) (Refuses d) (λ _. Among Stands Refuses ds) named

-- one quantity for each of so many hours
pub record HasHours (hours : ℕ) (d : Data) (quantities : List ℕ) : Type 0 where
  pub stands : Has (AreElements (IsWhole 0 most_quantity)) keys.Hours d quantities
  pub whole : length quantities ≡ hours

-- a row: an object, its fields in their order; what is no object is named by the key of the array
abbrev pub RefusesRow : Key → ℕ → Data → Key → Type 0
RefusesRow array_key hours d =
    Then (IsObject d) array_key (λ _.
    Field (IsText NamesCode) keys.Initiating d (λ _.
    Field (IsText NamesCode) keys.Matching d (λ _.
    Field (IsText NamesDirection) keys.Direction d (λ _.
    Lacks (HasHours hours d) keys.Hours))))

-- a line of a nomination, which may do without a priority, and a line for so many hours
abbrev pub RefusesNominationLine : Data → Key → Type 0
RefusesNominationLine d =
    Then (IsObject d) keys.Lines (λ _.
    Field (IsText NamesCode) keys.Counterparty d (λ _.
    Field (IsText NamesDirection) keys.Direction d (λ _.
    Field (AreElements (IsWhole 0 most_quantity)) keys.Hours d (λ _.
    Lacks (HasOr usual_priority (IsWhole 1 last_priority) keys.Priority d) keys.Priority))))

abbrev pub RefusesLineFor : ℕ → Data → Key → Type 0
RefusesLineFor hours d =
    Then (IsObject d) keys.Lines (λ _.
    Field (IsText NamesCode) keys.Counterparty d (λ _.
    Field (IsText NamesDirection) keys.Direction d (λ _.
    Lacks (HasHours hours d) keys.Hours)))

-- the lines
abbrev pub RefusesNominationLines : Data → Key → Type 0
RefusesNominationLines d = Field IsArray keys.Lines d (Among IsNominationLine RefusesNominationLine)

abbrev pub RefusesLinesFor : ℕ → Data → Key → Type 0
RefusesLinesFor hours d = Field IsArray keys.Lines d (Among (IsLineFor hours) (RefusesLineFor hours))

-- a table: an array of not too many elements, each a row, which make a table together
abbrev pub RefusesTable : ℕ → ℕ → ℕ → Key → Data → Key → Type 0
RefusesTable most first last key d =
    Field IsArray key d (λ elements.
    Then {X = Unit {0}} (λ _. items_len elements ≤ most) key (λ _.
    Part (Each (IsRowFor (covered first last)) elements) (Among (IsRowFor (covered first last)) (RefusesRow key (covered first last)) elements) (λ rows.
    Lacks (HasRows first last rows) key)))

-- the hours of a message, which part it is and of how many, and what an order and a response begin with
abbrev pub RefusesSpan : Data → (ℕ → ℕ → Key → Type 0) → Key → Type 0
RefusesSpan d after = Field (IsWhole 1 last_hour) keys.First d (λ first. Field (IsWhole first last_hour) keys.Last d (after first))

abbrev pub RefusesParts : Data → (ℕ → Key → Type 0) → Key → Type 0
RefusesParts d after = FieldOr 1 (IsWhole 1 most_parts) keys.Parts d (λ parts. FieldOr 1 (IsWhole 1 parts) keys.Part d (λ _. after parts))

abbrev pub RefusesHead : Data → (ℕ → ℕ → ℕ → Key → Type 0) → Key → Type 0
RefusesHead d after =
    Field (IsText NamesCode) keys.Point d (λ _.
    Field (IsText NamesDay) keys.Day d (λ _.
    Field (IsWhole 0 last_cycle) keys.Cycle d (λ _.
    RefusesSpan d (λ first last.
    RefusesParts d (after first last)))))

-- the fields of each kind, in their order
abbrev pub Refuses : Kind → Data → Key → Type 0
Refuses kinds.Nomint d =
    Field (IsText NamesCode) keys.Point d (λ _.
    Field (IsText NamesCode) keys.Portfolio d (λ _.
    Field (IsText NamesDay) keys.Day d (λ _.
    Field (IsWhole 1 last_version) keys.Version d (λ _.
    RefusesNominationLines d))))
Refuses kinds.Acknow d =
    Field (IsText NamesCode) keys.Point d (λ _.
    Field (IsText NamesCode) keys.Portfolio d (λ _.
    Field (IsText NamesDay) keys.Day d (λ _.
    Lacks (Has (IsWhole 1 last_version) keys.Version d) keys.Version)))
Refuses kinds.Nomres d =
    Field (IsText NamesCode) keys.Point d (λ _.
    Field (IsText NamesCode) keys.Portfolio d (λ _.
    Field (IsText NamesDay) keys.Day d (λ _.
    Field (IsWhole 0 last_cycle) keys.Cycle d (λ _.
    RefusesSpan d (λ first last. RefusesLinesFor (covered first last) d)))))
Refuses kinds.Delord d = RefusesHead d (λ first last parts. RefusesTable (elements_of most_processed_elements parts) first last keys.Processed d)
Refuses kinds.Delres d =
    RefusesHead d (λ first last parts.
    Part (HasTable (elements_of most_processed_elements parts) first last keys.Processed d) (RefusesTable (elements_of most_processed_elements parts) first last keys.Processed d) (λ _.
    RefusesTable (elements_of most_confirmed_elements parts) first last keys.Confirmed d))

-- bytes within the limit, the JSON text of a value
pub record IsJson (bytes : List ℕ) (d : Data) : Type 0 where
  pub short : length bytes ≤ most_bytes
  pub json : json_of bytes ≡ Some d

-- bytes of a value of some kind that is refused for the key
pub record IsRefusedFor (bytes : List ℕ) (key : Key) : Type 0 where
  pub value : Data
  pub json : IsJson bytes value
  pub kind : Kind
  pub named : IsOfKind kind value
  pub refused : Refuses kind value key

-- bytes of a value that names no kind
pub record HasNoKind (bytes : List ℕ) : Type 0 where
  pub value : Data
  pub json : IsJson bytes value
  pub none : (kind : Kind) → ¬ IsOfKind kind value
