-- What `match` answers: the lesser rule, from bytes to bytes.
use Rattle.std.specs.Prelude.{◌≡◌, ◌≢◌, ◌⊎◌, ◌<◌, ◌≤◌, ℕ, List, [], ◌∷◌, ◌++◌, length, Option, Result, Err, IfOk, IfErr}
use Rattle.std.specs.Io.KnownBytes.{Appends}
use Rattle.gi_messages.specs.Decoding.{decoded}
use Rattle.gi_messages.specs.Grammar.{Spells}
use Rattle.gi_messages.specs.Limits.{most_bytes}
use Rattle.gi_messages.specs.Writing.{text_of}
use Rattle.gi_messages.specs.declared.message.Message.{Message}
use Rattle.gi_messages.specs.declared.message.Message.TheVariants as message
use Rattle.gi_messages.specs.declared.message.Delord.{Delord}
use Rattle.gi_messages.specs.declared.message.Delres.{Delres}
use Rattle.gi_messages.specs.declared.message_fault.MessageFault.TheVariants.{TooLarge}
use Rattle.gi_pairs.specs.Limits.{most_processed_rows}
use Rattle.gi_pairs.specs.Table.{TableContents}
use Rattle.gi_lesser.specs.Lesser.{HasShapeOf, IsLesser, lesser_of}
use Rattle.gi_table_commands.specs.Lines.{HasLines, HasNoLines}
use Rattle.gi_text.specs.Lines.{line_feed}
use Rattle.gi_table_commands.specs.Input.{most_input}
use Rattle.gi_table_commands.specs.declared.fault.Line.{Line}
use Rattle.gi_table_commands.specs.declared.fault.Line.TheVariants.{Order, Own}
use Rattle.gi_table_commands.specs.declared.fault.Fault.{Fault}
use Rattle.gi_table_commands.specs.declared.fault.Fault.TheVariants as fault

-- both are for one point, day and cycle, and for the same hours
pub record SameShape (order own : Delord) : Type 0 where
  pub point : order.point ≡ own.point
  pub day : order.day ≡ own.day
  pub cycle : order.cycle ≡ own.cycle
  pub hours : HasShapeOf own.processed order.processed

-- what the matching operator answers, whole: its own table, and the confirmed one
abbrev pub response : Delord → TableContents → Delres
response own confirmed = record {
  point = own.point;
  day = own.day;
  cycle = own.cycle;
  parts = 1;
  part = 1;
  processed = own.processed;
  confirmed = confirmed;
}

-- the response to an order: its own table, and the lesser of both, which have one shape
pub record IsResponse (order own : Delord) (answered : Message) : Type 0 where
  pub confirmed : TableContents
  pub shape : SameShape order own
  pub lesser : IsLesser own.processed order.processed confirmed
  pub only : confirmed ≡ lesser_of own.processed order.processed
  pub is_response : answered ≡ message.Delres (response own confirmed)

-- why there is no response to an order
abbrev pub IsUnanswered : Delord → Delord → Fault → Type 0
IsUnanswered order own fault.ShapeDiffers = ¬ (SameShape order own)
IsUnanswered order own fault.OutOfMemory = Unit {0}
IsUnanswered order own _ = ⊥

-- the bytes are this DELORD, whole: it comes in one part
pub record SpellsWhole (bytes : List ℕ) (table : Delord) : Type 0 where
  pub spelled : Spells bytes (message.Delord table)
  pub whole : table.parts ≡ 1

-- the input is two lines, which are these DELORDs, whole
pub record SpellsTables (input : List ℕ) (order own : Delord) : Type 0 where
  pub first : List ℕ
  pub second : List ℕ
  pub lines : HasLines input first second
  pub is_order : SpellsWhole first order
  pub is_own : SpellsWhole second own

-- the text of the response with the lesser of the input's two tables, and a line feed
pub record IsAnswer (input text : List ℕ) : Type 0 where
  pub order : Delord
  pub own : Delord
  pub confirmed : TableContents
  pub tables : SpellsTables input order own
  pub shape : SameShape order own
  pub lesser : IsLesser own.processed order.processed confirmed
  pub only : confirmed ≡ lesser_of own.processed order.processed
  pub written : text ≡ text_of (message.Delres (response own confirmed)) ++ line_feed ∷ []

-- a message that is no DELORD
pub record SpellsOther (bytes : List ℕ) : Type 0 where
  pub found : Message
  pub spelled : Spells bytes found
  pub other : (table : Delord) → ¬ (found ≡ message.Delord table)

-- a DELORD that is one part of several
pub record SpellsPart (bytes : List ℕ) : Type 0 where
  pub found : Delord
  pub spelled : Spells bytes (message.Delord found)
  pub several : found.parts ≢ 1

-- why the bytes of a line are no whole DELORD
abbrev pub IsLineFault : Line → List ℕ → Fault → Type 0
IsLineFault line bytes (fault.Message at why) = (at ≡ line) × (decoded bytes ≡ Err why)
IsLineFault line bytes (fault.WrongKind at) = (at ≡ line) × SpellsOther bytes
IsLineFault line bytes (fault.Parts at) = (at ≡ line) × SpellsPart bytes
IsLineFault line bytes fault.OutOfMemory = Unit {0}
IsLineFault line bytes _ = ⊥

-- what is read on a line: the whole DELORD that it spells, which has no more rows than a processed table may have, or why it spells none
pub record IsTableOn (line : Line) (bytes : List ℕ) (result : Result Delord Fault) : Type 0 where
  pub spelled : IfOk result (SpellsWhole bytes)
  pub few_rows : IfOk result (λ table. length table.processed.rows ≤ most_processed_rows)
  pub refused : IfErr result (IsLineFault line bytes)
  pub too_large : most_bytes < length bytes → result ≡ Err (fault.Message line TooLarge)

-- the fault of two lines: the first one's, or where that spells a whole DELORD the second one's
abbrev pub IsFirstLineFault : List ℕ → List ℕ → Fault → Type 0
IsFirstLineFault first second why =
    IsLineFault Order first why ⊎ (((order : Delord) × SpellsWhole first order) × IsLineFault Own second why)

-- of two lines, the first is refused so, or the second is and the first spells a whole DELORD
abbrev pub IsRefusedAt : Line → List ℕ → Fault → Type 0
IsRefusedAt Order input why =
    (first second : List ℕ) × HasLines input first second × IsLineFault Order first why
IsRefusedAt Own input why = (first second : List ℕ) × HasLines input first second
    × ((order : Delord) × SpellsWhole first order) × IsLineFault Own second why

-- the two tables of the input are of different shapes
pub record HasTwoShapes (input : List ℕ) : Type 0 where
  pub order : Delord
  pub own : Delord
  pub tables : SpellsTables input order own
  pub different : ¬ (SameShape order own)

-- The first fault: the lines, the order, the own table, their shapes.
abbrev pub IsRefused : List ℕ → Fault → Type 0
IsRefused input fault.Lines = HasNoLines input
IsRefused input (fault.Message line why) = IsRefusedAt line input (fault.Message line why)
IsRefused input (fault.WrongKind line) = IsRefusedAt line input (fault.WrongKind line)
IsRefused input (fault.Parts line) = IsRefusedAt line input (fault.Parts line)
IsRefused input fault.ShapeDiffers = HasTwoShapes input
IsRefused input fault.OutOfMemory = Unit {0}
IsRefused input _ = ⊥

-- the input is within the limit, and its answer is what the output has gained
abbrev pub Answers : List ℕ → Option (List ℕ) → Option (List ℕ) → Type 0
Answers input old new =
    (length input ≤ most_input) × ((text : List ℕ) × IsAnswer input text × Appends old new text)

-- The first fault over an input. What comes from outside may come at any time: that the reader
-- fails or want of memory; that a writer fails only where there is an answer.
abbrev pub IsFirstFault : List ℕ → Fault → Type 0
IsFirstFault input fault.Read = Unit {0}
IsFirstFault input fault.OutOfMemory = Unit {0}
IsFirstFault input fault.TooLarge = most_input < length input
IsFirstFault input fault.Write =
    (length input ≤ most_input) × ((text : List ℕ) × IsAnswer input text)
IsFirstFault input why = (length input ≤ most_input) × IsRefused input why
