-- What is due is closed, by an office over a desk.
use Rattle.std.proofs.Common.{◌≡◌, ◌+◌, ℕ, ℤ, List, sym, subst, inl, inr, Option}
use Rattle.std.specs.Io.KnownBytes.{Appends}
use Rattle.gi_desk.specs.Machine.{DeskState}
use Rattle.gi_office.specs.Keeping.{SeatState}
use Rattle.gi_office.specs.Opening.{new_seat}
use Rattle.gi_pairs.specs.declared.cycle_id.CycleId.{CycleId}
use Rattle.gi_pairs.specs.declared.side.Side.{Side}
use Rattle.gi_live.specs.Closing.{WritesClosings}
use Rattle.gi_live.specs.Due.{AreDue}
use Rattle.gi_live.specs.Stretches.{DueClosed, EndsLife, IsSettlingFault, LeavesDue, WritesCut, pause}
use Rattle.gi_live.specs.declared.live_fault.LiveFault.{LiveFault}
use Rattle.gi_live.specs.declared.live_fault.LiveFault.TheVariants as faults
use Rattle.gi_live.proofs.Closings.{all_as_some}
use Rattle.gi_live.proofs.Runnings.{keeps_same}

-- the closings of an office that was opened over the desk
pub from_new : (side : Side) (desk : DeskState) (seat : SeatState) (saved line : ℕ) (ids : List CycleId) (before after : Option (List ℕ)) (new : SeatState)
    → seat ≡ new_seat 16 1 → saved ≡ desk.saved → WritesClosings side seat saved line ids before after new
    → WritesClosings side (new_seat 16 1) desk.saved line ids before after new
from_new side desk seat saved line ids before after new opened same writes =
    subst (λ s. WritesClosings side s desk.saved line ids before after new) opened (subst (λ n. WritesClosings side seat n line ids before after new) same writes)

-- they were made
pub closed : (side : Side) (desk : DeskState) (lines : ℕ) (moment : ℤ) (ids : List CycleId) (before after : Option (List ℕ)) (seat : SeatState) (new : DeskState)
    → AreDue desk.facts moment ids → WritesClosings side (new_seat 16 1) desk.saved (lines + 1) ids before after seat → EndsLife side seat new
    → (text : List ℕ) × DueClosed side (pause desk lines) moment text new × Appends before after text
closed side desk lines moment ids before after seat new due writes life =
    (writes.0, record { ids = ids; due = due; seat = seat; closings = writes.1; life = life }, writes.2)

cut : (side : Side) (desk : DeskState) (lines : ℕ) (moment : ℤ) (ids : List CycleId) (before after : Option (List ℕ)) (seat : SeatState)
    → AreDue desk.facts moment ids → WritesClosings side (new_seat 16 1) desk.saved (lines + 1) ids before after seat → WritesCut side (pause desk lines) moment before after
cut side desk lines moment ids before after seat due writes =
    (writes.0, record { ids = ids; due = due; closings = all_as_some side (new_seat 16 1) desk.saved (lines + 1) ids writes.0 seat writes.1 }, writes.2)

-- their office was not taken apart
pub not_settled : (side : Side) (desk : DeskState) (lines : ℕ) (moment : ℤ) (ids : List CycleId) (before after : Option (List ℕ)) (seat : SeatState) (fault : LiveFault)
    → AreDue desk.facts moment ids → WritesClosings side (new_seat 16 1) desk.saved (lines + 1) ids before after seat → IsSettlingFault fault
    → LeavesDue side (pause desk lines) moment before after fault
not_settled side desk lines moment ids before after seat (faults.Unsettled why) due writes is = cut side desk lines moment ids before after seat due writes
not_settled side desk lines moment ids before after seat faults.OutOfMemory due writes is = inr (cut side desk lines moment ids before after seat due writes)
not_settled side desk lines moment ids before after seat (faults.Turn why) due writes is = absurd is
not_settled side desk lines moment ids before after seat faults.Unsaved due writes is = absurd is
not_settled side desk lines moment ids before after seat faults.SeatFull due writes is = absurd is
not_settled side desk lines moment ids before after seat faults.Write due writes is = absurd is
not_settled side desk lines moment ids before after seat faults.Read due writes is = absurd is

-- no further office can be opened over the desk that comes back
pub not_resumed : (side : Side) (desk : DeskState) (lines : ℕ) (moment : ℤ) (ids : List CycleId) (before after : Option (List ℕ)) (seat : SeatState) (fault : LiveFault)
    → AreDue desk.facts moment ids → WritesClosings side (new_seat 16 1) desk.saved (lines + 1) ids before after seat → fault ≡ faults.Unsaved
    → LeavesDue side (pause desk lines) moment before after fault
not_resumed side desk lines moment ids before after seat fault due writes is =
    subst (λ f. LeavesDue side (pause desk lines) moment before after f) (sym is) (cut side desk lines moment ids before after seat due writes)

-- it was not opened
pub not_opened : (side : Side) (desk : DeskState) (lines : ℕ) (moment : ℤ) (output : Option (List ℕ)) (fault : LiveFault) → fault ≡ faults.OutOfMemory
    → LeavesDue side (pause desk lines) moment output output fault
not_opened side desk lines moment output fault is =
    subst (λ f. LeavesDue side (pause desk lines) moment output output f) (sym is) (inl (keeps_same output))
