-- What a desk keeps beside its facts.
use Rattle.std.specs.Prelude.{◌≡◌, ◌<◌, ◌≤◌, ◌+◌, ℕ, List, length, map, Bool, true, false, Option, Some, None, if◌then◌else◌}
use Rattle.jiff_core.specs.declared.civil.date.Date.{Date}
use Rattle.gi_pairs.specs.declared.cycle_id.CycleId.{CycleId}
use Rattle.gi_pairs.specs.declared.side.Side.{Side}
use Rattle.gi_messages.specs.declared.message.Nomint.{Nomint}
use Rattle.gi_nominations.specs.Book.{in_force}
use Rattle.gi_cycles.specs.declared.cycle_state.CycleState.{CycleState}
use Rattle.gi_cycles.specs.declared.cycle_state.CycleState.TheVariants.{Collecting, Frozen, Matched}
use Rattle.gi_parts.specs.Gathering.{CanKeep}
use Rattle.gi_desk.specs.History.{closings, is_closed, state_of}
use Rattle.gi_desk.specs.Machine.{DeskState, most_facts, would_record}
use Rattle.gi_facts.specs.Same.{same_cycle}
use Rattle.gi_facts.specs.declared.fact.Fact.{Fact}
use Rattle.gi_facts.specs.declared.fact.Fact.TheVariants.{Contracted, Noticed, Nominated, Closed, Met}
use Rattle.gi_desk.specs.declared.outcome.Outcome.{Outcome}
use Rattle.gi_desk.specs.declared.outcome.Outcome.TheVariants.{Records, RepeatsNomination, RepeatsMeeting, RepeatsPart, Keeps, Saves, Resends, Stops, Refuses}

-- of the nominations that are kept the same one is in force for each portfolio and gas day as of those that were taken
abbrev pub HasInForce : List Nomint → List Nomint → Type 0
HasInForce kept taken = (portfolio : List ℕ) (day : Date) → in_force portfolio day kept ≡ in_force portfolio day taken

-- which cycle a state is of
abbrev pub id_of : CycleState → CycleId
id_of (Collecting id) = id
id_of (Frozen cycle) = cycle.id
id_of (Matched cycle) = cycle.id

abbrev pub is_state_of : CycleId → CycleState → Bool
is_state_of id state = same_cycle (id_of state) id

-- how far each closed cycle is, in the order of their closings
unfoldable pub states_of : Side → List Fact → List CycleState
states_of side facts = map (state_of side facts) (closings facts)

-- how far a cycle is, once it is closed
abbrev pub closed_state : Side → List Fact → CycleId → Option CycleState
closed_state side facts id = if is_closed id facts then Some (state_of side facts id) else None

-- what a call that comes to an outcome can be sure of
abbrev pub CanFollow : Side → DeskState → Outcome → Type 0
CanFollow side s (Records fact) = (would_record side s.point s.facts fact ≡ true) × (length s.facts < most_facts)
CanFollow side s (RepeatsNomination n) = 1 ≤ n
CanFollow side s (RepeatsMeeting n) = 1 ≤ n
CanFollow side s (RepeatsPart n) = 1 ≤ n
CanFollow side s (Keeps id part) = CanKeep id s.kept part
CanFollow side s (Saves n) = (n ≡ s.saved + 1) × (n ≤ length s.facts)
CanFollow side s (Resends id) = Unit {0}
CanFollow side s Stops = Unit {0}
CanFollow side s (Refuses refusal) = Unit {0}

-- the facts that change how far a cycle is
abbrev pub changes_cycle : Fact → Bool
changes_cycle (Contracted contract) = false
changes_cycle (Noticed notice) = false
changes_cycle (Nominated document) = false
changes_cycle (Closed id rule) = true
changes_cycle (Met id peer) = true
