-- What the fields of a carrier stand for.
use Rattle.std.specs.Prelude.{ℕ, List, map}
use Rattle.std.specs.Global.{Vec}
use Rattle.std.specs.declared.alloc.Global.{Global}
use Rattle.std.specs.declared.collections.VecDeque.{VecDeque}

-- the bytes of a message
abbrev pub bytes_of : Vec ℕ → List ℕ
bytes_of message = message.items

-- the messages that wait, in order
abbrev pub messages_of : VecDeque (Vec ℕ) Global → List (List ℕ)
messages_of waiting = map bytes_of waiting.items
