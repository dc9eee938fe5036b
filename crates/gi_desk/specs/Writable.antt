-- Which cycle states and desks can be written: in rows of the store, and in the messages that they let out.
use Rattle.std.specs.Prelude.{◌≡◌, ◌≤◌, ◌+◌, List, ℕ, length, count_by, All}
use Rattle.gi_pairs.specs.Code.{IsCode}
use Rattle.gi_pairs.specs.Limits.{most_processed_rows}
use Rattle.gi_pairs.specs.Quantity.{IsQuantity}
use Rattle.gi_pairs.specs.Table.{IsTable}
use Rattle.gi_pairs.specs.declared.side.Side.{Side}
use Rattle.gi_cycles.specs.States.{FrozenCycle, MatchedCycle}
use Rattle.gi_cycles.specs.declared.cycle_state.CycleState.{CycleState}
use Rattle.gi_cycles.specs.declared.cycle_state.CycleState.TheVariants.{Collecting, Frozen, Matched}
use Rattle.gi_messages.specs.Grammar.{IsWritable}
use Rattle.gi_messages.specs.Limits.{most_bytes}
use Rattle.gi_messages.specs.Writing.{text_of}
use Rattle.gi_messages.specs.declared.message.Message.{Message}
use Rattle.gi_messages.specs.declared.nomination_line.NominationLine.{NominationLine}
use Rattle.gi_nominations.specs.Lines.{most_lines}
use Rattle.gi_processing.specs.Processing.{HasFewOfEach, is_row_of}
use Rattle.gi_facts.specs.Writable.{FitsCycle, FitsFact, FitsProcessed}
use Rattle.gi_facts.specs.declared.fact.Fact.{Fact}
use Rattle.gi_desk.specs.Caches.{states_of}
use Rattle.gi_desk.specs.declared.packet.Packet.{Packet}

-- A frozen cycle and a matched one of such parts. In the frozen table each portfolio of the side has at most as many rows as a
-- nomination has lines. The confirmed one covers the same hours, and of each portfolio it has at most the rows of a whole table besides.
pub record FitsFrozen (side : Side) (cycle : FrozenCycle) : Type 0 where
  pub id : FitsCycle cycle.id
  pub own : FitsProcessed cycle.own
  pub few_of_each : HasFewOfEach side cycle.own

pub record FitsMatched (side : Side) (cycle : MatchedCycle) : Type 0 where
  pub id : FitsCycle cycle.id
  pub own : FitsProcessed cycle.own
  pub few_of_each : HasFewOfEach side cycle.own
  pub peer : FitsProcessed cycle.peer
  pub confirmed : IsTable cycle.confirmed
  pub few_told : (portfolio : List ℕ) → count_by (is_row_of side portfolio) cycle.confirmed.rows ≤ most_lines + most_processed_rows
  pub begins : cycle.confirmed.first ≡ cycle.own.first
  pub ends : cycle.confirmed.last ≡ cycle.own.last

abbrev pub FitsState : Side → CycleState → Type 0
FitsState side (Collecting id) = FitsCycle id
FitsState side (Frozen cycle) = FitsFrozen side cycle
FitsState side (Matched cycle) = FitsMatched side cycle

-- of a line of a nomination all but the priority is in range
pub record FitsButPriority (line : NominationLine) : Type 0 where
  pub counterparty : IsCode line.counterparty
  pub quantities : All IsQuantity line.hours

-- all of a desk can be written: its point, its facts, and how far each closed cycle is
pub record FitsDesk (side : Side) (code : List ℕ) (recorded : List Fact) : Type 0 where
  pub point : IsCode code
  pub facts : All FitsFact recorded
  pub states : All (FitsState side) (states_of side recorded)

-- a packet's text is that of a message that can be written, and not too large
abbrev pub IsReadable : Packet → Type 0
IsReadable packet = (m : Message) × IsWritable m × (packet.body ≡ text_of m) × (length packet.body ≤ most_bytes)
