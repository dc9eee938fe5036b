-- What holds of all messages.
use Rattle.std.specs.Prelude.{◌≡◌, ◌≤◌, ◌↔◌, ℕ, List, length, Ok, Err}
use Rattle.serde_json.specs.Data.{Data}
use Rattle.gi_messages.specs.declared.key.Key.{Key}
use Rattle.gi_messages.specs.declared.message.Message.{Message}
use Rattle.gi_messages.specs.declared.message_fault.MessageFault.TheVariants.{Field, UnknownKind}
use Rattle.gi_messages.specs.Limits.{most_bytes}
use Rattle.gi_messages.specs.Decoding.{decoded}
use Rattle.gi_messages.specs.FirstFault.{HasNoKind, IsRefusedFor}
use Rattle.gi_messages.specs.Grammar.{IsMessage, IsWritable, Fits, HasFewLines, Spells}
use Rattle.gi_messages.specs.Writing.{data_of, text_of}

-- a value stands for one message at most
abbrev pub IsOneMessage : Type 0
IsOneMessage = (d : Data) (m n : Message) → IsMessage d m → IsMessage d n → m ≡ n

-- what is read of bytes is the message that they spell
abbrev pub ReadsSpelling : Type 0
ReadsSpelling = (bytes : List ℕ) (m : Message) → (decoded bytes ≡ Ok m) ↔ Spells bytes m

-- which key is named, and when no kind is
abbrev pub NamesFirstKey : Type 0
NamesFirstKey = (bytes : List ℕ) (key : Key) → (decoded bytes ≡ Err (Field key)) ↔ IsRefusedFor bytes key

abbrev pub MissesKind : Type 0
MissesKind = (bytes : List ℕ) → (decoded bytes ≡ Err UnknownKind) ↔ HasNoKind bytes

-- which messages can be written
abbrev pub IsWritableExactly : Type 0
IsWritableExactly = (m : Message) → IsWritable m ↔ Fits m

-- what is written for a message stands for it
abbrev pub WritesMessage : Type 0
WritesMessage = (m : Message) → IsWritable m → IsMessage (data_of m) m

-- a message that is written is read back, where its text is not too large
abbrev pub RoundTrips : Type 0
RoundTrips = (m : Message) → IsWritable m → length (text_of m) ≤ most_bytes → decoded (text_of m) ≡ Ok m

-- the text of a message that can be written is not too large, where the message has few lines
abbrev pub TextsAreShort : Type 0
TextsAreShort = (m : Message) → IsWritable m → HasFewLines m → length (text_of m) ≤ most_bytes
