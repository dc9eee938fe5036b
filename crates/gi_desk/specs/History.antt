-- What a list of facts says. A definition that speaks of a place in a list takes the facts before that place.
use Rattle.std.specs.Prelude.{ℕ, ◌+◌, List, length, take_while, filter_map, find, reverse, slice_get, Bool, false, not, nat_eq, ◌&&◌, if◌then◌else◌, Option, Some, None, option_map}
use Rattle.std.specs.List.{list_any}
use Rattle.std.specs.Option.{option_map_or}
use Rattle.jiff_core.specs.declared.civil.date.Date.{Date}
use Rattle.gi_day.specs.SameDay.{same_day}
use Rattle.gi_pairs.specs.Table.{TableContents}
use Rattle.gi_pairs.specs.declared.cycle_id.CycleId.{CycleId}
use Rattle.gi_pairs.specs.declared.side.Side.{Side}
use Rattle.gi_messages.specs.declared.message.Nomint.{Nomint}
use Rattle.gi_nominations.specs.Book.{is_of}
use Rattle.gi_processing.specs.Capacity.{Capacity}
use Rattle.gi_processing.specs.Processing.{processed}
use Rattle.gi_processing.specs.declared.contract.Contract.{Contract}
use Rattle.gi_processing.specs.declared.notice.Notice.{Notice}
use Rattle.gi_processing.specs.declared.rule.Rule.{Rule}
use Rattle.gi_processing.specs.declared.rule.Rule.TheVariants.{One}
use Rattle.gi_cycles.specs.States.{FrozenCycle, matched_of}
use Rattle.gi_cycles.specs.declared.cycle_state.CycleState.{CycleState}
use Rattle.gi_cycles.specs.declared.cycle_state.CycleState.TheVariants.{Collecting, Frozen, Matched}
use Rattle.gi_facts.specs.Same.{same_cycle}
use Rattle.gi_facts.specs.declared.fact.Fact.{Fact}
use Rattle.gi_facts.specs.declared.fact.Fact.TheVariants.{Contracted, Noticed, Nominated, Closed, Met}

-- the contract, the notice and the nomination that a fact records
abbrev pub contract_in : Fact → Option Contract
contract_in (Contracted contract) = Some contract
contract_in fact = None

abbrev pub notice_in : Fact → Option Notice
notice_in (Noticed notice) = Some notice
notice_in fact = None

abbrev pub document_in : Fact → Option Nomint
document_in (Nominated document) = Some document
document_in fact = None

-- the contracts and the notices recorded, and the nominations taken, each in their order
unfoldable pub capacity_of : List Fact → Capacity
capacity_of facts = record { contracts = filter_map contract_in facts; notices = filter_map notice_in facts }

unfoldable pub documents_of : List Fact → List Nomint
documents_of facts = filter_map document_in facts

-- the fact is the closing of the cycle, by whatever rule, the meeting of the cycle, and the taking of a nomination of that portfolio, gas
-- day and version
abbrev pub is_closing : CycleId → Fact → Bool
is_closing id (Closed other rule) = same_cycle other id
is_closing id fact = false

abbrev pub is_meeting : CycleId → Fact → Bool
is_meeting id (Met other peer) = same_cycle other id
is_meeting id fact = false

abbrev pub is_taking : Nomint → Fact → Bool
is_taking document (Nominated other) = is_of document.portfolio document.day other && nat_eq other.version document.version
is_taking document fact = false

-- the facts before the first that is so, all where none is
unfoldable pub facts_before : (Fact → Bool) → List Fact → List Fact
facts_before is facts = take_while (λ fact. not (is fact)) facts

-- the number of the first fact that is so; one more than there are facts where none is
unfoldable pub number_of : (Fact → Bool) → List Fact → ℕ
number_of is facts = length (facts_before is facts) + 1

-- the cycles closed, in the order of their closings
abbrev pub closing_in : Fact → Option CycleId
closing_in (Closed id rule) = Some id
closing_in fact = None

unfoldable pub closings : List Fact → List CycleId
closings facts = filter_map closing_in facts

-- whether the cycle is closed, and the number of the gas day's cycle that was closed last
unfoldable pub is_closed : CycleId → List Fact → Bool
is_closed id facts = list_any (is_closing id) facts

unfoldable pub last_closed : Date → List Fact → Option ℕ
last_closed day facts = option_map (λ id. id.cycle) (find (λ id. same_day id.day day) (reverse (closings facts)))

-- the rule of a closing, and that by which a cycle is closed: that of its first closing, and rule 1 where there is none
abbrev pub rule_in : Fact → Rule
rule_in (Closed id rule) = rule
rule_in fact = One

unfoldable pub rule_of : CycleId → List Fact → Rule
rule_of id facts = option_map_or rule_in (find (is_closing id) facts) One

-- The frozen quantities of a side and a cycle: the processed quantities of the facts before its closing, by the rule of it.
unfoldable pub frozen_table : Side → List Fact → CycleId → TableContents
frozen_table side facts id =
    let before = facts_before (is_closing id) facts in processed (capacity_of before) (documents_of before) side id.day id.cycle (rule_of id facts)

-- the peer's table that the cycle met
abbrev pub peer_in : CycleId → Fact → Option TableContents
peer_in id (Met other peer) = if same_cycle other id then Some peer else None
peer_in id fact = None

unfoldable pub peer_of : CycleId → List Fact → Option TableContents
peer_of id facts = slice_get (filter_map (peer_in id) facts) 0

-- how far the cycle is: it collects until it is closed, is frozen then, and matched once it met the peer's table
abbrev pub frozen_cycle : Side → List Fact → CycleId → FrozenCycle
frozen_cycle side facts id = record { id = id; own = frozen_table side facts id }

abbrev pub met_by : FrozenCycle → Option TableContents → CycleState
met_by cycle None = Frozen cycle
met_by cycle (Some peer) = Matched (matched_of cycle peer)

unfoldable pub state_of : Side → List Fact → CycleId → CycleState
state_of side facts id = if is_closed id facts then met_by (frozen_cycle side facts id) (peer_of id facts) else Collecting id
