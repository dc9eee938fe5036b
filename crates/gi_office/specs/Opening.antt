-- The seats of a new office.
use Rattle.std.specs.Prelude.{ℕ, ◌-◌, List, [], ◌∷◌, ◌++◌, length, map}
use Rattle.std.specs.List.{range_with_len}
use Rattle.gi_desk.specs.Machine.{DeskState}
use Rattle.gi_office.specs.Keeping.{HeldState, SeatState}

-- a seat from which nothing was called yet
abbrev pub new_seat : ℕ → ℕ → SeatState
new_seat parts number = record { number = number; notes = []; amount = 0; parts = parts }

-- Numbered from 1. Each has one of the 16 parts of the ledger, and the last one all that are left over.
abbrev pub new_seats : ℕ → List SeatState
new_seats count = map (new_seat 1) (range_with_len 1 (count - 1)) ++ new_seat (17 - count) count ∷ []

-- an office that was asked nothing yet
abbrev pub new_held : DeskState → ℕ → HeldState
new_held desk seats = record { opening = length desk.facts; seats = seats; desk = desk; trail = []; total = 0 }
