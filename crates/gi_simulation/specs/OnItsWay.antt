-- What is on its way to a side was let out by the other one, so it can be delivered.
use Rattle.std.specs.Prelude.{◌≡◌, ◌⊎◌, ℕ, List, All, Contains, Some, filter}
use Rattle.gi_carrier.specs.Carrier.{given}
use Rattle.gi_desk.specs.Machine.{is_for_peer}
use Rattle.gi_desk.specs.declared.packet.Packet.{Packet}
use Rattle.gi_pairs.specs.declared.side.Side.{Side}
use Rattle.gi_pairs.specs.declared.side.Side.TheVariants.{I, M}
use Rattle.gi_script.specs.declared.instruction.Instruction.TheVariants as instructions
use Rattle.gi_script.specs.declared.line.Line.{Line}
use Rattle.gi_simulation.specs.Runs.{run}
use Rattle.gi_simulation.specs.Simulation.{LinkState, SimulationState, link_to, new_simulation, step_of}
use Rattle.gi_world.specs.Headline.{OneConfirmedQuantity}
use Rattle.gi_world.specs.Histories.{held}
use Rattle.gi_world.specs.World.{WorldState, bytes_delivered, station_of}
use Rattle.gi_world.specs.declared.step.Step.TheVariants as steps

-- a message is the body of one of these packets
abbrev pub WasSent : List Packet → List ℕ → Type 0
WasSent packets message = (packet : Packet) × Contains packets packet × (packet.body ≡ message)

-- and each of these messages is
abbrev pub WereSent : List (List ℕ) → List Packet → Type 0
WereSent messages packets = All (WasSent packets) messages

-- what waits on the way to a side, the other side let out
pub record OnlySentWaits (s : SimulationState) : Type 0 where
  pub to_initiating : WereSent s.to_initiating.carrier.waiting (station_of M s.world).sent
  pub to_matching : WereSent s.to_matching.carrier.waiting (station_of I s.world).sent

-- what the carrier towards a side gives next is delivered there: `carry` makes a delivery, of these very bytes
abbrev pub IsDelivered : SimulationState → Side → Type 0
IsDelivered s side =
    (bytes : List ℕ) → given (link_to side s).plan (link_to side s).carrier ≡ Some bytes
    → (n : ℕ) × (step_of s (instructions.Carry side) ≡ Some (steps.Deliver side n)) × (bytes_delivered s.world side n ≡ Some bytes)

-- and so at both sides
abbrev pub AllIsDelivered : SimulationState → Type 0
AllIsDelivered s = (side : Side) → IsDelivered s side

-- what holds of every simulation that the calls make
pub record IsSound (s : SimulationState) : Type 0 where
  pub one_quantity : OneConfirmedQuantity (held s.world)
  pub waits : OnlySentWaits s

-- ---- what comes to those on the way

-- each of these packets that is for the peer, the side let out
abbrev pub WereLetOut : Side → WorldState → List Packet → Type 0
WereLetOut side w packets = All (Contains (station_of side w).sent) (filter is_for_peer packets)

-- each message that waits now waited before, or is the body of one of these packets that is for the peer
abbrev pub WaitedOrCame : LinkState → List Packet → LinkState → Type 0
WaitedOrCame old packets new = All (λ message. Contains old.carrier.waiting message ⊎ WasSent (filter is_for_peer packets) message) new.carrier.waiting

-- ---- the laws

-- in a simulation where only what was let out waits, what a carrier gives next is delivered
abbrev pub WhatWasSentIsDelivered : Type 0
WhatWasSentIsDelivered = (s : SimulationState) → OnlySentWaits s → AllIsDelivered s

-- after any turns of a new simulation only what was let out waits
abbrev pub OnlySentEverWaits : Type 0
OnlySentEverWaits = (point : List ℕ) (turns : List Line) → OnlySentWaits (run (new_simulation point) turns)

-- so what a carrier gives next is delivered
abbrev pub WhatIsCarriedIsDelivered : Type 0
WhatIsCarriedIsDelivered = (point : List ℕ) (turns : List Line) → AllIsDelivered (run (new_simulation point) turns)
