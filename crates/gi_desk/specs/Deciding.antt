-- What a desk makes of its peer's order or response, by the state of the cycle and the parts that are kept.
use Rattle.std.specs.Prelude.{◌≡◌, ◌⊎◌, ℕ, ◌+◌, List, [], ◌∷◌, Bool, false, not, ◌&&◌, if◌then◌else◌, Option, Some, None, IsTrue}
use Rattle.std.specs.List.{list_all, list_any}
use Rattle.jiff_core.specs.declared.civil.date.Date.{Date}
use Rattle.gi_pairs.specs.Row.{row_eq}
use Rattle.gi_pairs.specs.Table.{TableContents, same_hours, table_eq}
use Rattle.gi_pairs.specs.declared.cycle_id.CycleId.{CycleId}
use Rattle.gi_pairs.specs.declared.row.Row.{Row}
use Rattle.gi_pairs.specs.declared.side.Side.{Side}
use Rattle.gi_pairs.specs.declared.side.Side.TheVariants.{I, M}
use Rattle.gi_messages.specs.declared.message.Message.{Message}
use Rattle.gi_messages.specs.declared.message.Message.TheVariants.{Nomint, Acknow, Nomres, Delord, Delres}
use Rattle.gi_lesser.specs.Lesser.{lesser_of}
use Rattle.gi_cycles.specs.States.{MatchedCycle}
use Rattle.gi_cycles.specs.declared.cycle_state.CycleState.{CycleState}
use Rattle.gi_cycles.specs.declared.cycle_state.CycleState.TheVariants.{Collecting, Frozen, Matched}
use Rattle.gi_parts.specs.Gathering.{gathered, is_whole}
use Rattle.gi_parts.specs.Parts.{IsSent, part_of_order, part_of_response, rows_of}
use Rattle.gi_parts.specs.declared.gathered.Gathered.{Gathered}
use Rattle.gi_parts.specs.declared.gathered.Gathered.TheVariants as gathers
use Rattle.gi_parts.specs.declared.gathered.PartFault.{PartFault}
use Rattle.gi_parts.specs.declared.gathered.PartFault.TheVariants as faults
use Rattle.gi_parts.specs.declared.kept_parts.KeptPart.{KeptPart}
use Rattle.gi_parts.specs.declared.part.Part.{Part}
use Rattle.gi_desk.specs.declared.decision.Decision.{Decision}
use Rattle.gi_desk.specs.declared.decision.Decision.TheVariants.{Meet, Keep, Again, Refused}
use Rattle.gi_desk.specs.declared.refusal.Refusal.{Refusal}
use Rattle.gi_desk.specs.declared.refusal.Refusal.TheVariants.{OutOfMemory, WrongKind, NotClosed, ShapeDiffers, PartDiffers, PartsOverlap, TooManyRows, NotTheLesser, Conflict}

-- the least place, from 1, at which rows differ; a row that one list lacks differs
abbrev pub one_later : Option ℕ → Option ℕ
one_later None = None
one_later (Some place) = Some (place + 1)

abbrev pub difference : List Row → List Row → Option ℕ
difference [] [] = None
difference [] (y ∷ ys) = Some 1
difference (x ∷ xs) [] = Some 1
difference (x ∷ xs) (y ∷ ys) = if row_eq x y then one_later (difference xs ys) else Some 1

-- each row stands among others
abbrev pub are_among : List Row → List Row → Bool
are_among rows others = list_all (λ row. list_any (λ other. row_eq other row) others) rows

-- A cycle that met a table meets the same one again, and refuses another. So it does a part of the same one: each row of it is one of the peer's, and
-- each that it confirms one of the confirmed table's.
abbrev pub met_again : TableContents → TableContents → Decision
met_again met peer = if table_eq met peer then Again else Refused Conflict

abbrev pub part_again : MatchedCycle → Part → Decision
part_again cycle part = if are_among part.processed.rows cycle.peer.rows && are_among (rows_of part.confirmed) cycle.confirmed.rows then Again else Refused Conflict

-- why parts are not taken
abbrev pub refusal_of : PartFault → Refusal
refusal_of (faults.PartDiffers part) = PartDiffers part
refusal_of faults.PartsOverlap = PartsOverlap
refusal_of faults.TooManyRows = TooManyRows
refusal_of faults.OutOfMemory = OutOfMemory

-- only for the hours of the frozen table
abbrev pub if_same_hours : TableContents → Part → Decision → Decision
if_same_hours own part decision = if same_hours own part.processed then decision else Refused ShapeDiffers

-- the matching side: the order's table meets, once the cycle is closed and no part is missing
abbrev pub ordered : Gathered → Decision
ordered (gathers.Complete whole) = Meet whole.processed
ordered (gathers.Keep part) = Keep part
ordered (gathers.Refused fault) = Refused (refusal_of fault)

abbrev pub by_order : List KeptPart → Part → CycleState → Decision
by_order kept part (Collecting id) = Refused NotClosed
by_order kept part (Frozen cycle) = if_same_hours cycle.own part (ordered (gathered cycle.id kept part))
by_order kept part (Matched cycle) = if_same_hours cycle.own part (if is_whole part then met_again cycle.peer part.processed else part_again cycle part)

-- the initiating side, besides: what the response confirms is the lesser of its own table and the response's
abbrev pub unless_differs : Option ℕ → Decision → Decision
unless_differs None decision = decision
unless_differs (Some row) decision = Refused (NotTheLesser row)

abbrev pub compared : TableContents → TableContents → List Row → Decision → Decision
compared own peer confirmed decision = unless_differs (difference confirmed (lesser_of own peer).rows) decision

abbrev pub responded : TableContents → Gathered → Decision
responded own (gathers.Complete whole) = compared own whole.processed (rows_of whole.confirmed) (Meet whole.processed)
responded own (gathers.Keep part) = Keep part
responded own (gathers.Refused fault) = Refused (refusal_of fault)

abbrev pub by_response : List KeptPart → Part → CycleState → Decision
by_response kept part (Collecting id) = Refused NotClosed
by_response kept part (Frozen cycle) = if_same_hours cycle.own part (responded cycle.own (gathered cycle.id kept part))
by_response kept part (Matched cycle) =
    if_same_hours cycle.own part
    (if is_whole part then compared cycle.own part.processed (rows_of part.confirmed) (met_again cycle.peer part.processed) else part_again cycle part)

-- the matching side decides by orders, and the initiating side by responses
abbrev pub decision : Side → CycleState → List KeptPart → Message → Decision
decision M state kept (Delord message) = by_order kept (part_of_order message) state
decision I state kept (Delres message) = by_response kept (part_of_response message) state
decision side state kept message = Refused WrongKind

-- a message, where it is of the kind that is for the side
abbrev pub for_role : Side → Message → Option Message
for_role M (Delord message) = Some (Delord message)
for_role I (Delres message) = Some (Delres message)
for_role side message = None

-- the interconnection point and the cycle of such a message
abbrev pub cycle_of : (day : Date) → ℕ → CycleId
cycle_of day cycle = record { day = day; cycle = cycle }

abbrev pub address_of : Side → Message → Option (List ℕ × CycleId)
address_of M (Delord message) = Some (message.point, cycle_of message.day message.cycle)
address_of I (Delres message) = Some (message.point, cycle_of message.day message.cycle)
address_of side message = None

-- the number of the part that a message is
abbrev pub number_in : Message → ℕ
number_in (Delord message) = message.part
number_in (Delres message) = message.part
number_in message = 1

-- an order or a response that can be read
abbrev pub IsReceivable : Message → Type 0
IsReceivable (Delord message) = IsSent (part_of_order message)
IsReceivable (Delres message) = IsSent (part_of_response message)
IsReceivable (Nomint message) = Unit {0}
IsReceivable (Acknow message) = Unit {0}
IsReceivable (Nomres message) = Unit {0}

-- To decide may want memory only for the hours of the frozen table: until the cycle has met for the rows of several parts, and for the lesser that
-- what a response confirms is compared with.
abbrev pub order_may_want : Part → CycleState → Bool
order_may_want part (Collecting id) = false
order_may_want part (Frozen cycle) = not (is_whole part) && same_hours cycle.own part.processed
order_may_want part (Matched cycle) = false

abbrev pub response_may_want : Part → CycleState → Bool
response_may_want part (Collecting id) = false
response_may_want part (Frozen cycle) = same_hours cycle.own part.processed
response_may_want part (Matched cycle) = is_whole part && same_hours cycle.own part.processed

abbrev pub may_want_at : CycleState → Message → Bool
may_want_at state (Delord message) = order_may_want (part_of_order message) state
may_want_at state (Delres message) = response_may_want (part_of_response message) state
may_want_at state (Nomint message) = false
may_want_at state (Acknow message) = false
may_want_at state (Nomres message) = false

-- this decision, or the refusal for want of memory where memory may be wanted
abbrev pub IsUnlessShort : Bool → Decision → Decision → Type 0
IsUnlessShort wants decided got = (got ≡ decided) ⊎ (IsTrue wants × (got ≡ Refused OutOfMemory))

-- what a role decides
abbrev pub IsDecided : Side → CycleState → List KeptPart → Message → Decision → Type 0
IsDecided side state kept message got = IsUnlessShort (may_want_at state message) (decision side state kept message) got
