-- What holds of all histories of a desk.
use Rattle.std.specs.List.{flat_map}
use Rattle.std.specs.Prelude.{◌≡◌, ℕ, ◌+◌, ◌<◌, ◌≤◌, List, [], ◌∷◌, ◌++◌, length, take, All, Contains, ◌⊎◌, Some, None, true, false}
use Rattle.gi_pairs.specs.Table.{TableContents}
use Rattle.gi_pairs.specs.declared.cycle_id.CycleId.{CycleId}
use Rattle.gi_pairs.specs.declared.row.Row.{Row}
use Rattle.gi_pairs.specs.declared.side.Side.{Side}
use Rattle.gi_cycles.specs.States.{FrozenCycle, matched_of}
use Rattle.gi_messages.specs.declared.message.Message.{Message}
use Rattle.gi_messages.specs.declared.message.Message.TheVariants as messages
use Rattle.gi_messages.specs.declared.message.Nomint.{Nomint}
use Rattle.gi_processing.specs.declared.rule.Rule.{Rule}
use Rattle.gi_nominations.specs.Book.{in_force, is_of}
use Rattle.gi_desk.specs.History.{documents_of, frozen_table, is_closed, peer_of, state_of}
use Rattle.gi_desk.specs.Caches.{changes_cycle}
use Rattle.gi_desk.specs.LetOut.{let_out, packets_of}
use Rattle.gi_desk.specs.Machine.{DeskState, after as state_after, bad_fact, comes_to, is_for_peer, reply, started_again, would_record}
use Rattle.gi_desk.specs.Messages.{orders_of, responses_of}
use Rattle.gi_desk.specs.Queries.{confirmed}
use Rattle.gi_desk.specs.Writable.{FitsDesk, IsReadable}
use Rattle.gi_facts.specs.Writable.{FitsFact}
use Rattle.gi_desk.specs.declared.reply.Answer.TheVariants as answers
use Rattle.gi_desk.specs.declared.call.Call.{Call}
use Rattle.gi_facts.specs.declared.fact.Fact.{Fact}
use Rattle.gi_facts.specs.declared.fact.Fact.TheVariants.{Closed, Met, Nominated}
use Rattle.gi_desk.specs.declared.outcome.Outcome.TheVariants.{Records}
use Rattle.gi_desk.specs.declared.packet.Packet.{Packet}
use Rattle.gi_desk.specs.declared.refusal.Refusal.{Refusal}

-- what a fact lets out is never changed by later facts
abbrev pub LetsOutForGood : Type 0
LetsOutForGood =
    (side : Side) (point : List ℕ) (facts more : List Fact) (n : ℕ) → n ≤ length facts → let_out side point (facts ++ more) n ≡ let_out side point facts n

-- nor are the frozen quantities of a closed cycle, nor the table that it met
abbrev pub FreezesForGood : Type 0
FreezesForGood =
    (side : Side) (facts more : List Fact) (id : CycleId) → is_closed id facts ≡ true → frozen_table side (facts ++ more) id ≡ frozen_table side facts id

abbrev pub MatchesForGood : Type 0
MatchesForGood =
    (side : Side) (facts more : List Fact) (id : CycleId) (peer : TableContents) → is_closed id facts ≡ true → peer_of id facts ≡ Some peer
    → state_of side (facts ++ more) id ≡ state_of side facts id

-- Of facts that a desk would record in turn, one at most closes a cycle.
abbrev pub ClosesOnce : Type 0
ClosesOnce =
    (side : Side) (point : List ℕ) (before after : List Fact) (id : CycleId) (rule : Rule) → bad_fact side point (before ++ Closed id rule ∷ after) ≡ None
    → (is_closed id before ≡ false) × (is_closed id after ≡ false)

-- One at most meets it, and that one stands after the closing.
abbrev pub MeetsOnce : Type 0
MeetsOnce =
    (side : Side) (point : List ℕ) (before after : List Fact) (id : CycleId) (peer : TableContents)
    → bad_fact side point (before ++ Met id peer ∷ after) ≡ None
    → (is_closed id before ≡ true) × (peer_of id before ≡ None) × (peer_of id after ≡ None)

-- Of facts that a desk would record in turn, the versions of the nominations of a portfolio and gas day rise.
abbrev pub VersionsRise : Type 0
VersionsRise =
    (side : Side) (point : List ℕ) (before between after : List Fact) (document later : Nomint) → bad_fact side point (before ++ Nominated document ∷ (between ++ Nominated later ∷ after)) ≡ None
    → is_of document.portfolio document.day later ≡ true → document.version < later.version

-- Of facts that a desk would record in turn, the nomination in force has the highest version of all that were taken of its
-- portfolio and gas day.
abbrev pub KeepsTheHighestVersion : Type 0
KeepsTheHighestVersion =
    (side : Side) (point : List ℕ) (before after : List Fact) (document held : Nomint) → bad_fact side point (before ++ Nominated document ∷ after) ≡ None
    → in_force document.portfolio document.day (documents_of (before ++ Nominated document ∷ after)) ≡ Some held → document.version ≤ held.version

-- the new facts are the old ones, or those with one more at the end
abbrev pub HasOneMoreAtMost : List Fact → List Fact → Type 0
HasOneMoreAtMost old new = (new ≡ old) ⊎ ((fact : Fact) × (new ≡ old ++ fact ∷ []))

-- A call leaves the facts as they are or adds one at the end. It saves one more at most, and what is saved stays so.
abbrev pub OnlyAppends : Type 0
OnlyAppends =
    (side : Side) (s : DeskState) (call : Call)
    → let next = state_after side s call in HasOneMoreAtMost s.facts next.facts × (s.saved ≤ next.saved) × (next.saved ≤ s.saved + 1)

-- A refused call changes nothing and lets nothing out.
abbrev pub RefusalsChangeNothing : Type 0
RefusalsChangeNothing =
    (side : Side) (s : DeskState) (call : Call) (refusal : Refusal) → (reply side s call).answer ≡ answers.Refused refusal
    → (state_after side s call ≡ s) × ((reply side s call).out ≡ [])

-- Every packet of a reply is what a fact lets out that is saved once the call is done.
abbrev pub SaysOnlyWhatIsSaved : Type 0
SaysOnlyWhatIsSaved =
    (side : Side) (s : DeskState) (call : Call) (packet : Packet) → Contains (reply side s call).out packet
    → (n : ℕ) × (1 ≤ n) × (n ≤ (state_after side s call).saved) × Contains (let_out side s.point s.facts n) packet

-- The peer is written to only of a cycle that was closed or met.
abbrev pub OrdersOnlyOfCycles : Type 0
OrdersOnlyOfCycles =
    (side : Side) (point : List ℕ) (facts : List Fact) (fact : Fact) (packet : Packet) → Contains (packets_of side point facts fact) packet
    → is_for_peer packet ≡ true → changes_cycle fact ≡ true

-- Facts that a desk would record in turn stay such facts after a call, and no call saves more facts than there are.
abbrev pub StaysLegal : Type 0
StaysLegal =
    (side : Side) (s : DeskState) (call : Call)
    → let next = state_after side s call in
    (bad_fact side s.point s.facts ≡ None → bad_fact side next.point next.facts ≡ None) × (s.saved ≤ length s.facts → next.saved ≤ length next.facts)

-- The first so many of facts that a desk would record in turn are such facts too.
abbrev pub FrontsAreLegal : Type 0
FrontsAreLegal =
    (side : Side) (point : List ℕ) (facts : List Fact) (n : ℕ) → bad_fact side point facts ≡ None → bad_fact side point (take n facts) ≡ None

-- What is once confirmed of a cycle no call changes.
abbrev pub ConfirmsForGood : Type 0
ConfirmsForGood =
    (side : Side) (s : DeskState) (call : Call) (id : CycleId) (table : TableContents) → bad_fact side s.point s.facts ≡ None → s.saved ≤ length s.facts
    → confirmed side s id ≡ Some table → confirmed side (state_after side s call) id ≡ Some table

-- What is once confirmed of a cycle no restart changes that keeps the saved facts.
abbrev pub ConfirmsThroughRestarts : Type 0
ConfirmsThroughRestarts =
    (side : Side) (s : DeskState) (n : ℕ) (id : CycleId) (table : TableContents) → bad_fact side s.point s.facts ≡ None → s.saved ≤ n
    → confirmed side s id ≡ Some table → confirmed side (started_again s n) id ≡ Some table

-- What a call records may come next; and where all of a desk can be written, and a fact too, some call records the fact
-- that may come next.
abbrev pub RecordsWhatCallsRecord : Type 0
RecordsWhatCallsRecord =
    (side : Side) (s : DeskState) (fact : Fact)
    → ((call : Call) → comes_to side s call ≡ Records fact → would_record side s.point s.facts fact ≡ true)
    × (FitsDesk side s.point s.facts → FitsFact fact → would_record side s.point s.facts fact ≡ true → (call : Call) × (comes_to side s call ≡ Records fact))

-- Every packet that a fact of a desk lets out is the text of a message that can be written, and not too large.
abbrev pub WritesMessages : Type 0
WritesMessages =
    (side : Side) (point : List ℕ) (facts : List Fact) (n : ℕ) → bad_fact side point facts ≡ None → FitsDesk side point facts
    → All IsReadable (let_out side point facts n)

-- the rows that an order or a response carries of the sender's table, and of the confirmed one
abbrev pub processed_in : Message → List Row
processed_in (messages.Delord m) = m.processed.rows
processed_in (messages.Delres m) = m.processed.rows
processed_in message = []

abbrev pub confirmed_in : Message → List Row
confirmed_in (messages.Delres m) = m.confirmed.rows
confirmed_in message = []

-- What a role writes of a cycle carries its tables whole: one message after the other has all rows, and no row twice.
abbrev pub SendsWholeTables : Type 0
SendsWholeTables =
    (point : List ℕ) (cycle : FrozenCycle) (peer : TableContents)
    → let matched = matched_of cycle peer in
    (flat_map processed_in (orders_of point cycle) ≡ cycle.own.rows)
    × (flat_map processed_in (responses_of point matched) ≡ cycle.own.rows)
    × (flat_map confirmed_in (responses_of point matched) ≡ matched.confirmed.rows)
