-- What is held stands for what is given of it and of what comes.
use Rattle.std.specs.Prelude.{ℕ, ◌++◌, ◌∷◌, List, None, Some, Option}
use Rattle.gi_clock.specs.declared.held.Held.{Held}
use Rattle.gi_clock.specs.declared.held.Piece.{Piece}
use Rattle.gi_clock.specs.Handing.{Came, told}

-- what came, and was not told yet
abbrev pub with_piece : Option Piece → List Came → List Came
with_piece None events = events
with_piece (Some piece) events = record { line = piece.line.items; bytes = piece.bytes.items } ∷ events

abbrev pub given_of : Held → List Came → List ℕ
given_of held events = held.rest ++ told held.begun.items (with_piece held.piece events)

abbrev pub left_of : Held → Option (List Came) → Option (List ℕ)
left_of held None = None
left_of held (Some events) = Some (given_of held events)
