-- What one call of a seat does under the lock, and what the seat learns of it.
use Rattle.std.specs.Prelude.{◌≡◌, ◌↔◌, ◌+◌, [], ◌∷◌, ◌++◌, length, Result, Ok, Err}
use Rattle.gi_pairs.specs.declared.side.Side.{Side}
use Rattle.gi_desk.specs.Machine.{after, reply}
use Rattle.gi_desk.specs.declared.call.Call.{Call}
use Rattle.gi_office.specs.Keeping.{HeldState, IsFull, HeldInvariant, SeatState}
use Rattle.gi_office.specs.declared.office_fault.OfficeFault.{OfficeFault}
use Rattle.gi_office.specs.declared.office_fault.OfficeFault.TheVariants.{SeatFull}
use Rattle.gi_office.specs.declared.receipt.Receipt.{Receipt}

-- the seat's number, the place that comes next in the trail, and the reply of the desk machine
abbrev pub receipt_of : Side → HeldState → SeatState → Call → Receipt
receipt_of side held seat call = record { seat = seat.number; place = length held.trail + 1; reply = reply side held.desk call }

-- the desk machine makes one step, which is one entry more
abbrev pub entered : Side → HeldState → SeatState → Call → HeldState
entered side held seat call =
    record held {
      desk = after side held.desk call;
      trail = held.trail ++ record { seat = seat.number; call = call; reply = reply side held.desk call } ∷ [];
      total = held.total + 1;
    }

-- the seat notes the call, at the place and with the reply of the receipt
abbrev pub noted : SeatState → Call → Receipt → SeatState
noted seat call receipt =
    record seat { notes = seat.notes ++ record { place = receipt.place; call = call; reply = receipt.reply } ∷ []; amount = seat.amount + 1 }

-- What a lock gave is not told, but that it was an office like any other: the receipt is that of the desk machine there.
abbrev pub IsReceipt : Side → SeatState → Call → Receipt → Type 0
IsReceipt side seat call receipt = (held : HeldState) × HeldInvariant side held × (receipt ≡ receipt_of side held seat call)

-- the seat that comes back noted the call, or is as it was
abbrev pub GivesBack : Side → SeatState → Call → Result Receipt OfficeFault → SeatState → Type 0
GivesBack side old call (Ok receipt) new = IsReceipt side old call receipt × (new ≡ noted old call receipt)
GivesBack side old call (Err fault) new = new ≡ old

-- a call from a seat: it is refused for that exactly where the seat is full
pub record IsAnswered (side : Side) (old : SeatState) (call : Call) (answer : Result Receipt OfficeFault) (new : SeatState) : Type 0 where
  pub full : (answer ≡ Err SeatFull) ↔ IsFull old
  pub gives : GivesBack side old call answer new
