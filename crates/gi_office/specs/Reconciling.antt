-- Two offices that are over, set against each other: whether what each was delivered was sent by the other, and what both
-- then agree on.
use Rattle.std.specs.Prelude.{◌≡◌, ◌≤◌, ℕ, ◌-◌, List, [], ◌∷◌, filter, take, slice_get, All, Bool, true, ◌&&◌, nat_eq, IsTrue, ◌⊎◌, if◌then◌else◌, Option, None, Some, Result, Ok, Err}
use Rattle.std.specs.List.{flat_map, list_any}
use Rattle.std.specs.Str.{bytes_eq}
use Rattle.gi_pairs.specs.Table.{TableContents}
use Rattle.gi_pairs.specs.declared.cycle_id.CycleId.{CycleId}
use Rattle.gi_pairs.specs.declared.side.Side.{Side}
use Rattle.gi_pairs.specs.declared.side.Side.TheVariants.{I, M}
use Rattle.gi_desk.specs.Machine.{DeskState, is_for_peer, some_leave}
use Rattle.gi_desk.specs.Queries.{confirmed, outgoing}
use Rattle.gi_desk.specs.declared.call.Call.{Call}
use Rattle.gi_desk.specs.declared.call.Call.TheVariants as calls
use Rattle.gi_desk.specs.declared.packet.Packet.{Packet}
use Rattle.gi_world.specs.Agreement.{IsSent, MeetsFrozen}
use Rattle.gi_world.specs.Confirming.{IsLowerOfFrozen, ReadAlike}
use Rattle.gi_world.specs.Histories.{held}
use Rattle.gi_world.specs.Telling.{TellsTheLower}
use Rattle.gi_world.specs.World.{StationState, WorldState, station_of, tells}
use Rattle.gi_office.specs.Lives.{Life, opened}
use Rattle.gi_office.specs.Settling.{AreWhole, SettledState}
use Rattle.gi_office.specs.declared.entry.Entry.{Entry}
use Rattle.gi_office.specs.declared.unreconciled.Unreconciled.{Unreconciled}
use Rattle.gi_office.specs.declared.unreconciled.Unreconciled.TheVariants.{NotAPair, Stranger, OutOfMemory}

-- ---- delivered is sent

-- the bytes of a packet to the peer that a saved fact of the side lets out
abbrev pub WasSent : Side → DeskState → List ℕ → Type 0
WasSent side s bytes = (packet : Packet) × IsSent side s packet × (packet.body ≡ bytes)

-- What a call delivers was sent by this side, whose last desk this is. Nothing is said of when.
abbrev pub IsFrom : Side → DeskState → Call → Type 0
IsFrom side s (calls.Deliver bytes) = WasSent side s bytes
IsFrom side s call = Unit {0}

abbrev pub AreFrom : Side → DeskState → List Entry → Type 0
AreFrom side s entries = All (λ (entry : Entry). IsFrom side s entry.call) entries

-- all entries of lives, those of the first life first
abbrev pub entries_of : List Life → List Entry
entries_of lives = flat_map (λ (life : Life). life.trail) lives

-- the one at a place, from 1
abbrev pub entry_at : List Entry → ℕ → Option Entry
entry_at entries place = if nat_eq place 0 then None else slice_get entries (place - 1)

-- whatever was delivered to either side was sent by the other
pub record DeliveredIsSent (ours theirs : SettledState) : Type 0 where
  pub initiating : AreFrom M theirs.desk (entries_of ours.lives)
  pub matching : AreFrom I ours.desk (entries_of theirs.lives)

-- the first entry that delivers what the side did not send has this place, from 1
pub record IsStranger (side : Side) (s : DeskState) (entries : List Entry) (place : ℕ) : Type 0 where
  pub some : 1 ≤ place
  pub entry : Entry
  pub there : slice_get entries (place - 1) ≡ Some entry
  pub strange : ¬ (IsFrom side s entry.call)
  pub before : AreFrom side s (take (place - 1) entries)

-- whether the saved facts of a side let a packet out
abbrev pub has_sent : Side → DeskState → Bool
has_sent side s = some_leave (outgoing side s 1)

-- what is told of this side where what was delivered to it was not all sent by the other: its first stranger, or want of
-- memory, where the other sent something
abbrev pub IsStrangerFault : Side → Side → DeskState → List Entry → Unreconciled → Type 0
IsStrangerFault own other s entries NotAPair = ⊥
IsStrangerFault own other s entries (Stranger side place) = (side ≡ own) × IsStranger other s entries place
IsStrangerFault own other s entries OutOfMemory = IsTrue (has_sent other s)

-- the first of the initiating side comes before that of the matching side
abbrev pub IsFirstStranger : SettledState → SettledState → Side → ℕ → Type 0
IsFirstStranger initiating matching I place = IsStranger M matching.desk (entries_of initiating.lives) place
IsFirstStranger initiating matching M place =
    AreFrom M matching.desk (entries_of initiating.lives) × IsStranger I initiating.desk (entries_of matching.lives) place

abbrev pub AreOfOnePoint : SettledState → SettledState → Type 0
AreOfOnePoint initiating matching = initiating.desk.point ≡ matching.desk.point

-- Both are of one point, and whatever was delivered was sent; else another point, or the first stranger. Memory is wanted only
-- for what the matching side sent, where it sent something; else, where none is strange at the initiating side, for what that side sent.
abbrev pub Reconciles : SettledState → SettledState → Result (Unit {0}) Unreconciled → Type 0
Reconciles initiating matching (Ok done) = AreOfOnePoint initiating matching × DeliveredIsSent initiating matching
Reconciles initiating matching (Err NotAPair) = ¬ (AreOfOnePoint initiating matching)
Reconciles initiating matching (Err (Stranger side place)) = AreOfOnePoint initiating matching × IsFirstStranger initiating matching side place
Reconciles initiating matching (Err OutOfMemory) =
    AreOfOnePoint initiating matching
    × (IsTrue (has_sent M matching.desk) ⊎ (AreFrom M matching.desk (entries_of initiating.lives) × IsTrue (has_sent I initiating.desk)))

-- The test of that over the packets that a side sent: whether the call, where it delivers, delivers one of them.
abbrev pub carries : List ℕ → Packet → Bool
carries bytes packet = is_for_peer packet && bytes_eq packet.body bytes

abbrev pub is_from : List Packet → Call → Bool
is_from packets (calls.Deliver bytes) = list_any (carries bytes) packets
is_from packets call = true

-- ---- one quantity

-- all that the replies of lives let out, in order
abbrev pub said_in : List Entry → List Packet
said_in entries = flat_map (λ (entry : Entry). entry.reply.out) entries

-- the last desk, with what the lives let out to the peer, and what they told
abbrev pub station_in : SettledState → StationState
station_in settled = let said = said_in (entries_of settled.lives) in record {
  desk = settled.desk;
  sent = filter is_for_peer said;
  told = filter tells said;
}

abbrev pub both_of : SettledState → SettledState → WorldState
both_of initiating matching = record { initiating = station_in initiating; matching = station_in matching }

-- Each table that a side had met before its first life is the one that the other side froze, whose closing is saved at its
-- end. A first life that opens without a meeting has none.
abbrev pub OpensWithFrozen : Side → List Life → DeskState → Type 0
OpensWithFrozen side [] peer = Unit {0}
OpensWithFrozen side (life ∷ later) peer = MeetsFrozen side (opened life.point life.opening) peer

-- Every quantity that a side has confirmed, or that any reply in its lives told, is the lower of the two that both froze for
-- its cycle, pair, direction and hour; so the two never differ.
pub record OneReconciledQuantity (both : WorldState) : Type 0 where
  pub lower : (side : Side) (id : CycleId) (table : TableContents) → confirmed side (station_of side both).desk id ≡ Some table
      → IsLowerOfFrozen (held both) id table
  pub alike : (id : CycleId) (initiating matching : TableContents) → confirmed I both.initiating.desk id ≡ Some initiating
      → confirmed M both.matching.desk id ≡ Some matching → ReadAlike initiating matching
  pub told : (side : Side) → All (TellsTheLower (held both) side) (station_of side both).told

-- of two offices of whole lives, the first of which opened with nothing but what the other side froze
abbrev pub AgreeOnOneQuantity : SettledState → SettledState → Type 0
AgreeOnOneQuantity initiating matching =
    AreWhole I initiating.lives initiating.desk → AreWhole M matching.lives matching.desk
    → OpensWithFrozen I initiating.lives matching.desk → OpensWithFrozen M matching.lives initiating.desk → OneReconciledQuantity (both_of initiating matching)
