-- What each side tells its portfolios: what it has confirmed.
use Rattle.std.specs.Prelude.{◌≡◌, ◌+◌, ℕ, All, slice_get, Some, Ok}
use Rattle.gi_pairs.specs.Table.{TableContents, reading}
use Rattle.gi_pairs.specs.declared.cycle_id.CycleId.{CycleId}
use Rattle.gi_pairs.specs.Pair.{pair_of}
use Rattle.gi_pairs.specs.declared.side.Side.{Side}
use Rattle.gi_messages.specs.Decoding.{decoded}
use Rattle.gi_messages.specs.declared.line.Line.{Line}
use Rattle.gi_messages.specs.declared.message.Message.TheVariants as messages
use Rattle.gi_messages.specs.declared.message.Nomres.{Nomres}
use Rattle.gi_desk.specs.Deciding.{cycle_of}
use Rattle.gi_desk.specs.declared.packet.Packet.{Packet}
use Rattle.gi_world.specs.Confirming.{IsLowerOfFrozen, table_confirmed}
use Rattle.gi_world.specs.Histories.{Histories, history_of}

-- the cycle of a message
abbrev pub cycle_told : Nomres → CycleId
cycle_told message = cycle_of message.day message.cycle

-- Each quantity of a line, from the message's first hour on, is the table's for the pair of the message's portfolio and the
-- line's counterparty, in the line's direction and in that hour.
abbrev pub IsRead : Side → Nomres → TableContents → Line → Type 0
IsRead side message table line =
    (place quantity : ℕ) → slice_get line.hours place ≡ Some quantity
    → quantity ≡ reading table (pair_of side message.portfolio line.counterparty) line.direction (message.first + place)

-- The side has confirmed the message's cycle; its confirmed table is the lower of both frozen ones; and each line has the
-- quantities of that table.
pub record IsToldLower (both : Histories) (side : Side) (message : Nomres) : Type 0 where
  pub table : TableContents
  pub confirmed : table_confirmed side (history_of side both) (cycle_told message) ≡ Some table
  pub lower : IsLowerOfFrozen both (cycle_told message) table
  pub lines : All (IsRead side message table) message.lines

-- a packet whose bytes read as such a message
abbrev pub TellsTheLower : Histories → Side → Packet → Type 0
TellsTheLower both side packet = (message : Nomres) × (decoded packet.body ≡ Ok (messages.Nomres message)) × IsToldLower both side message
