-- Why bytes are no message.
use Rattle.std.specs.Prelude.{ℕ, List, ◌++◌, codes}
use Rattle.gi_messages.specs.declared.fault.FieldFault.{FieldFault}
use Rattle.gi_messages.specs.declared.fault.FieldFault.TheVariants as field
use Rattle.gi_messages.specs.declared.message_fault.MessageFault.{MessageFault}
use Rattle.gi_messages.specs.declared.message_fault.MessageFault.TheVariants.{TooLarge, NotJson, UnknownKind, Field, OutOfMemory}
use Rattle.gi_messages.specs.Key.{key_text}

-- the fault of a message whose field was not read
abbrev pub fault_of : FieldFault → MessageFault
fault_of (field.Wrong key) = Field key
fault_of field.OutOfMemory = OutOfMemory

-- how a fault is printed: its name, and the key of the field
abbrev pub fault_text : MessageFault → List ℕ
fault_text TooLarge = codes "TooLarge"
fault_text NotJson = codes "NotJson"
fault_text UnknownKind = codes "UnknownKind"
fault_text (Field key) = codes "Field " ++ key_text key
fault_text OutOfMemory = codes "OutOfMemory"
