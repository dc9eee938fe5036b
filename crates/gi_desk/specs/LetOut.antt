-- What a saved fact lets out: an acknowledgement of a nomination, the initiating side's order of a closing, and of a
-- meeting the matching side's response and what each portfolio is told.
use Rattle.std.specs.Prelude.{◌≡◌, ◌≤◌, ℕ, ◌-◌, List, [], ◌∷◌, ◌++◌, get_or, length, map, take, slice_get, Option, Some, None}
use Rattle.gi_pairs.specs.declared.side.Side.{Side}
use Rattle.gi_messages.specs.declared.message.Message.{Message}
use Rattle.gi_messages.specs.declared.message.Message.TheVariants as messages
use Rattle.gi_cycles.specs.States.{FrozenCycle, MatchedCycle, matched_of}
use Rattle.gi_cycles.specs.declared.cycle_state.CycleState.{CycleState}
use Rattle.gi_cycles.specs.declared.cycle_state.CycleState.TheVariants.{Collecting, Frozen, Matched}
use Rattle.gi_desk.specs.History.{frozen_cycle}
use Rattle.gi_desk.specs.Messages.{acknow_of, on_closed, on_met, to_peer, to_user, told_packets}
use Rattle.gi_facts.specs.declared.fact.Fact.{Fact}
use Rattle.gi_facts.specs.declared.fact.Fact.TheVariants.{Contracted, Noticed, Nominated, Closed, Met}
use Rattle.gi_desk.specs.declared.packet.Packet.{Packet}

-- the packets of messages to the peer, in order
abbrev pub sent : List Message → List Packet
sent = map to_peer

-- what a fact lets out, at the end of these facts, of which it is the last
abbrev pub packets_of : Side → List ℕ → List Fact → Fact → List Packet
packets_of side point facts (Contracted contract) = []
packets_of side point facts (Noticed notice) = []
packets_of side point facts (Nominated document) = to_user document.portfolio (messages.Acknow (acknow_of document)) ∷ []
packets_of side point facts (Closed id rule) = sent (on_closed side point (frozen_cycle side facts id))
packets_of side point facts (Met id peer) =
    let cycle = matched_of (frozen_cycle side facts id) peer in sent (on_met side point cycle) ++ told_packets side point cycle

abbrev pub if_fact : Side → List ℕ → List Fact → Option Fact → List Packet
if_fact side point facts None = []
if_fact side point facts (Some fact) = packets_of side point facts fact

-- What fact number n lets out is said by the facts up to it alone: so no later fact, and no restart that keeps it,
-- changes it.
unfoldable pub let_out : Side → List ℕ → List Fact → ℕ → List Packet
let_out side point facts n = let up_to = take n facts in if_fact side point up_to (slice_get up_to (n - 1))

-- A matched cycle as it was frozen, and what the closing of a cycle let out, by how far the cycle is.
abbrev pub frozen_of : MatchedCycle → FrozenCycle
frozen_of cycle = record { id = cycle.id; own = cycle.own }

abbrev pub let_out_on_closing : Side → List ℕ → CycleState → List Packet
let_out_on_closing side point (Collecting id) = []
let_out_on_closing side point (Frozen cycle) = sent (on_closed side point cycle)
let_out_on_closing side point (Matched cycle) = sent (on_closed side point (frozen_of cycle))

-- fact number n, from 1
abbrev pub IsFact : List Fact → ℕ → Fact → Type 0
IsFact facts n fact = (1 ≤ n) × (n ≤ length facts) × (fact ≡ get_or facts (n - 1) fact)
