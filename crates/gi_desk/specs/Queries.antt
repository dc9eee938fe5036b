-- What a desk says of itself. What is confirmed, what is told of it and what goes out it says from its saved facts alone.
use Rattle.std.specs.Prelude.{ℕ, zero, suc, ◌+◌, ◌-◌, max, List, take, slice_get, Bool, ◌&&◌, nat_le, if◌then◌else◌, Option, Some, None, option_map}
use Rattle.std.specs.List.{flat_map, list_any, range_with_len}
use Rattle.gi_pairs.specs.Table.{TableContents}
use Rattle.gi_pairs.specs.declared.cycle_id.CycleId.{CycleId}
use Rattle.gi_pairs.specs.declared.row.Row.{Row}
use Rattle.gi_pairs.specs.declared.side.Side.{Side}
use Rattle.gi_lesser.specs.Lesser.{lesser_of}
use Rattle.gi_messages.specs.declared.message.Nomres.{Nomres}
use Rattle.gi_cycles.specs.States.{MatchedCycle, matched_of}
use Rattle.gi_cycles.specs.declared.cycle_state.CycleState.{CycleState}
use Rattle.gi_cycles.specs.declared.cycle_state.CycleState.TheVariants as states
use Rattle.gi_parts.specs.Parts.{count_of}
use Rattle.gi_desk.specs.History.{frozen_cycle, frozen_table, is_closed, is_closing, is_meeting, number_of, peer_of}
use Rattle.gi_desk.specs.LetOut.{let_out}
use Rattle.gi_desk.specs.Machine.{DeskState}
use Rattle.gi_desk.specs.Messages.{is_row_of, told_of}
use Rattle.gi_facts.specs.declared.fact.Fact.{Fact}
use Rattle.gi_desk.specs.declared.packet.Packet.{Packet}
use Rattle.gi_desk.specs.declared.stage_name.StageName.{StageName}
use Rattle.gi_desk.specs.declared.stage_name.StageName.TheVariants.{Collecting, Frozen, Matched}

-- a fact by its number, from 1
abbrev pub fact_at : List Fact → ℕ → Option Fact
fact_at facts zero = None
fact_at facts (suc before) = slice_get facts before

-- the next fact to save, with its number
abbrev pub unsaved : DeskState → Option (ℕ × Fact)
unsaved s = option_map (λ fact. (s.saved + 1, fact)) (slice_get s.facts s.saved)

-- a nomination is acknowledged once its fact is saved
abbrev pub acknowledged : DeskState → ℕ → Bool
acknowledged s n = nat_le 1 n && nat_le n s.saved

-- The confirmed table of a cycle: where a saved fact met the peer's table, the lesser of the frozen one and it.
unfoldable pub confirmed : Side → DeskState → CycleId → Option TableContents
confirmed side s id = option_map (lesser_of (frozen_table side s.facts id)) (peer_of id (take s.saved s.facts))

-- the number of the fact that closed a cycle
abbrev pub closing : List Fact → CycleId → Option ℕ
closing facts id = if is_closed id facts then Some (number_of (is_closing id) facts) else None

-- the frozen table of a closed cycle
abbrev pub own_in : CycleState → Option TableContents
own_in (states.Collecting id) = None
own_in (states.Frozen cycle) = Some cycle.own
own_in (states.Matched cycle) = Some cycle.own

unfoldable pub frozen : Side → List Fact → CycleId → Option TableContents
frozen side facts id = if is_closed id facts then Some (frozen_table side facts id) else None

-- the number of the fact by which a cycle met the peer's table, and that table
abbrev pub peer_in : CycleState → Option TableContents
peer_in (states.Matched cycle) = Some cycle.peer
peer_in state = None

unfoldable pub meeting : List Fact → CycleId → Option (ℕ × TableContents)
meeting facts id = option_map (λ peer. (number_of (is_meeting id) facts, peer)) (peer_of id facts)

-- how many parts of the peer's order or response are kept of a cycle
abbrev pub kept : DeskState → CycleId → ℕ
kept s id = count_of id s.kept

-- how far a cycle is
abbrev pub stage_of : CycleState → StageName
stage_of (states.Collecting id) = Collecting
stage_of (states.Frozen cycle) = Frozen
stage_of (states.Matched cycle) = Matched

-- the cycle, where it is matched
abbrev pub matched_in : CycleState → Option MatchedCycle
matched_in (states.Matched cycle) = Some cycle
matched_in state = None

-- A cycle where a saved fact met the peer's table: matched by the frozen table and that one.
unfoldable pub met_saved : Side → DeskState → CycleId → Option MatchedCycle
met_saved side s id = option_map (matched_of (frozen_cycle side s.facts id)) (peer_of id (take s.saved s.facts))

-- whether the side's portfolio stands in a row
abbrev pub stands_in : Side → List ℕ → List Row → Bool
stands_in side portfolio rows = list_any (is_row_of side portfolio) rows

-- What a portfolio is told of a cycle: its confirmed rows, where a saved fact met the peer's table and it stands in one
-- of them.
abbrev pub told_if : Side → List ℕ → List ℕ → Option MatchedCycle → Option Nomres
told_if side point portfolio None = None
told_if side point portfolio (Some cycle) = if stands_in side portfolio cycle.confirmed.rows then Some (told_of side point cycle portfolio) else None

unfoldable pub told : Side → DeskState → List ℕ → CycleId → Option Nomres
told side s portfolio id = told_if side s.point portfolio (met_saved side s id)

-- What the saved facts from a number on let out, in order. 0 reads as 1.
unfoldable pub outgoing : Side → DeskState → ℕ → List Packet
outgoing side s first = flat_map (let_out side s.point s.facts) (range_with_len (max 1 first) (s.saved + 1 - max 1 first))
