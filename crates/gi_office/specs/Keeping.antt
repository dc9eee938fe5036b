-- What the lock of an office keeps, and what a seat carries.
use Rattle.std.specs.Prelude.{◌≡◌, ◌≤◌, ◌<◌, ℕ, List, length, take}
use Rattle.gi_pairs.specs.declared.side.Side.{Side}
use Rattle.gi_desk.specs.Machine.{DeskState}
use Rattle.gi_office.specs.Limits.{most_notes}
use Rattle.gi_office.specs.Lives.{IsLegal, Life}
use Rattle.gi_office.specs.declared.entry.Entry.{Entry}
use Rattle.gi_office.specs.declared.note.Note.{Note}

-- how many facts the desk was opened with, how many seats there are, the desk, all calls to it since then, and the
-- book's total
pub record HeldState : Type 0 where
  pub opening : ℕ
  pub seats : ℕ
  pub desk : DeskState
  pub trail : List Entry
  pub total : ℕ

-- The facts that the desk was opened with are its first ones still: it only appends.
abbrev pub life_of : HeldState → Life
life_of held = record { point = held.desk.point; opening = take held.opening held.desk.facts; trail = held.trail }

-- the trail is a legal life, of which the desk is the end, and the book counts its entries
pub record HeldInvariant (side : Side) (held : HeldState) : Type 0 where
  pub within : held.opening ≤ length held.desk.facts
  pub life : IsLegal side (life_of held) held.desk
  pub counted : held.total ≡ length held.trail

-- How many seats an office has. What its lock keeps no contract names.
pub record OfficeState : Type 0 where
  pub seats : ℕ

-- its number, the calls that were made from it, and its share in the ledger: an amount, and some of the parts
pub record SeatState : Type 0 where
  pub number : ℕ
  pub notes : List Note
  pub amount : ℕ
  pub parts : ℕ

-- the share counts the calls
pub record IsSeat (seat : SeatState) : Type 0 where
  pub counted : seat.amount ≡ length seat.notes
  pub room : length seat.notes ≤ most_notes
  pub backed : 0 < seat.parts

-- there is no room for a further call
abbrev pub IsFull : SeatState → Type 0
IsFull seat = length seat.notes ≡ most_notes
