-- What waits on its way was let out, in every run.
use Rattle.std.proofs.Common.{◌≡◌, ◌+◌, ℕ, suc, List, [], ◌∷◌, ◌++◌, length, filter, position, slice_get, nat_lt, All, Contains, Bool, true, false, cond, Option, Some, None, option_map, Result, Ok, Err, append-nil, refl, sym, ap, subst, ◌∙◌}
use Rattle.std.proofs.lemmas.List.Elements.{All-contains_itself, All-head, All-nil, All-push, All-tail, All-weaker, Contains-append_left, Contains-append_right}
use Rattle.std.proofs.lemmas.Option.{slice_get-get_or}
use Rattle.gi_carrier.specs.Carrier.{after_send, move_at}
use Rattle.gi_carrier.specs.Limits.{most_waiting}
use Rattle.gi_desk.specs.Machine.{is_for_peer, reply}
use Rattle.gi_desk.specs.declared.call.Call.{Call}
use Rattle.gi_desk.specs.declared.call.Call.TheVariants as calls
use Rattle.gi_desk.specs.declared.packet.Packet.{Packet}
use Rattle.gi_pairs.specs.declared.side.Side.{Side}
use Rattle.gi_pairs.specs.declared.side.Side.TheVariants.{I, M}
use Rattle.gi_script.specs.declared.instruction.Instruction.{Instruction}
use Rattle.gi_script.specs.declared.instruction.Instruction.TheVariants as instructions
use Rattle.gi_script.specs.declared.line.Line.{Line}
use Rattle.gi_simulation.specs.OnItsWay.{IsDelivered, OnlySentEverWaits, OnlySentWaits, WasSent, WereSent, WhatIsCarriedIsDelivered, WhatWasSentIsDelivered}
use Rattle.gi_simulation.specs.Runs.{run}
use Rattle.gi_simulation.specs.Simulation.{LinkState, SimulationState, after, after_any, delivering, link_to, moved_on, new_simulation, out_of, prepared, side_of_step, step_of, with_link, with_message, with_packet, with_packets}
use Rattle.gi_carrier.proofs.CarrierLaws.{given_is, next_are}
use Rattle.gi_world.proofs.Numbers.{BytesAt, numbered, unnumbered}
use Rattle.gi_world.specs.World.{StationState, WorldState, after as world_after, after_call, after_delivery, after_if, after_restart, called, delivered, delivery, has_bytes, is_delivery, other, outcome as world_outcome, station_of, with_station}
use Rattle.gi_world.specs.declared.step.Step.{Step}
use Rattle.gi_world.specs.declared.step.Step.TheVariants as steps
use Rattle.gi_world.specs.declared.world_fault.WorldFault.{WorldFault}
use Rattle.gi_world.specs.declared.world_fault.WorldFault.TheVariants.{KeepsTooFew, KeepsTooMany, NotLocal}
use Rattle.gi_world.specs.declared.world_reply.WorldReply.{WorldReply}
use Rattle.gi_world.specs.declared.world_reply.WorldReply.TheVariants.{Restarted}
use Rattle.gi_world.specs.Keeping.{IsLonger}

-- of each way, what waits was let out by the world's other side
abbrev pub WaitAfter : WorldState → SimulationState → Type 0
WaitAfter w s = (side : Side) → WereSent (link_to side s).carrier.waiting (station_of (other side) w).sent

-- ---- what was let out stays so

-- each side let out what it had, and more
abbrev pub AreLonger : WorldState → WorldState → Type 0
AreLonger old new = (side : Side) → IsLonger (station_of side old).sent (station_of side new).sent

still : (old new : List Packet) → IsLonger old new → (message : List ℕ) → WasSent old message → WasSent new message
still old new (more, is) message (packet, there, same) =
    (packet, subst (λ (sent : List Packet). Contains sent packet) (sym is) (Contains-append_left old more packet there), same)

pub wait_on : (old new : WorldState) (s : SimulationState) → AreLonger old new → WaitAfter old s → WaitAfter new s
wait_on old new s longer waits side =
    let before = (station_of (other side) old).sent in
    let now = (station_of (other side) new).sent in
    All-weaker (WasSent before) (WasSent now) (still before now (longer (other side))) (link_to side s).carrier.waiting (waits side)

none_more : (w : WorldState) → AreLonger w w
none_more w side = ([], sym (append-nil (station_of side w).sent))

longer_at : (at : Side) (station : StationState) (w : WorldState) → IsLonger (station_of at w).sent station.sent → AreLonger w (with_station at station w)
longer_at I station w longer I = longer
longer_at I station w longer M = none_more w M
longer_at M station w longer I = none_more w I
longer_at M station w longer M = longer

called_longer : (at : Side) (w : WorldState) (call : Call) → AreLonger w (with_station at (after_call at (station_of at w) call) w)
unfolding after_call
called_longer at w call =
    let station = station_of at w in longer_at at (after_call at station call) w (filter is_for_peer (reply at station.desk call).out, refl)

local_longer : (at : Side) (b : Bool) (w : WorldState) (call : Call) → AreLonger w (cond b w (with_station at (after_call at (station_of at w) call) w))
local_longer at true w call = none_more w
local_longer at false w call = called_longer at w call

delivery_longer : (at : Side) (w : WorldState) (packet : Option Packet) → AreLonger w (after_delivery w at packet)
delivery_longer at w None = none_more w
delivery_longer at w (Some packet) = called_longer at w (calls.Deliver packet.body)

restart_longer : (at : Side) (w : WorldState) (keep : ℕ) (few many : Bool) (saved kept : ℕ)
    → AreLonger w (after_if w (with_station at (after_restart (station_of at w) keep) w) (cond few (Err (KeepsTooFew saved)) (cond many (Err (KeepsTooMany kept)) (Ok (Restarted keep)))))
unfolding after_restart
restart_longer at w keep true many saved kept = none_more w
restart_longer at w keep false true saved kept = none_more w
restart_longer at w keep false false saved kept =
    let station = station_of at w in longer_at at (after_restart station keep) w ([], sym (append-nil station.sent))

after_longer : (w : WorldState) (step : Step) → AreLonger w (world_after w step)
unfolding world_after
after_longer w (steps.Local at call) = local_longer at (is_delivery call) w call
after_longer w (steps.Deliver at n) = delivery_longer at w (delivery w at n)
after_longer w (steps.Restart at keep) =
    let s = (station_of at w).desk in restart_longer at w keep (nat_lt keep s.saved) (nat_lt (length s.facts) keep) s.saved (length s.facts)

-- ---- what a step lets out for the peer is among what its side let out

abbrev pub AreAmong : List Packet → Result WorldReply WorldFault → Type 0
AreAmong sent r = All (Contains sent) (filter is_for_peer (out_of r))

added : (sent out : List Packet) → All (Contains (sent ++ out)) out
added sent out = All-weaker (Contains out) (Contains (sent ++ out)) (Contains-append_right sent out) out (All-contains_itself out)

call_lets_out : (at : Side) (w : WorldState) (call : Call) → AreAmong (station_of at (with_station at (after_call at (station_of at w) call) w)).sent (called at (station_of at w) call)
unfolding after_call
call_lets_out I w call = added w.initiating.sent (filter is_for_peer (reply I w.initiating.desk call).out)
call_lets_out M w call = added w.matching.sent (filter is_for_peer (reply M w.matching.desk call).out)

local_lets_out : (at : Side) (b : Bool) (w : WorldState) (call : Call)
    → AreAmong (station_of at (cond b w (with_station at (after_call at (station_of at w) call) w))).sent (cond b (Err NotLocal) (called at (station_of at w) call))
local_lets_out at true w call = All-nil (Contains (station_of at w).sent)
local_lets_out at false w call = call_lets_out at w call

delivery_lets_out : (at : Side) (w : WorldState) (packet : Option Packet) → AreAmong (station_of at (after_delivery w at packet)).sent (delivered at (station_of at w) packet)
delivery_lets_out at w None = All-nil (Contains (station_of at w).sent)
delivery_lets_out at w (Some packet) = call_lets_out at w (calls.Deliver packet.body)

restart_lets_out : (sent : List Packet) (few many : Bool) (saved kept keep : ℕ) → AreAmong sent (cond few (Err (KeepsTooFew saved)) (cond many (Err (KeepsTooMany kept)) (Ok (Restarted keep))))
restart_lets_out sent true many saved kept keep = All-nil (Contains sent)
restart_lets_out sent false true saved kept keep = All-nil (Contains sent)
restart_lets_out sent false false saved kept keep = All-nil (Contains sent)

pub lets_out : (w : WorldState) (step : Step) → AreAmong (station_of (side_of_step step) (world_after w step)).sent (world_outcome w step)
unfolding world_after world_outcome
lets_out w (steps.Local at call) = local_lets_out at (is_delivery call) w call
lets_out w (steps.Deliver at n) = delivery_lets_out at w (delivery w at n)
lets_out w (steps.Restart at keep) =
    let s = (station_of at w).desk in
    restart_lets_out (station_of at (world_after w (steps.Restart at keep))).sent (nat_lt keep s.saved) (nat_lt (length s.facts) keep) s.saved (length s.facts) keep

-- ---- what holds of all that waits, and of what comes to it

either_link : (P : LinkState → Type 0) (b : Bool) (x y : LinkState) → P x → P y → P (cond b x y)
either_link P true x y first second = first
either_link P false x y first second = second

message_comes : (P : List ℕ → Type 0) (link : LinkState) (message : List ℕ) → All P link.carrier.waiting → P message → All P (with_message link message).carrier.waiting
message_comes P link message wait came =
    either_link (λ (next : LinkState). All P next.carrier.waiting) (nat_lt (length link.carrier.waiting) most_waiting)
    (record { carrier = after_send message link.carrier; plan = link.plan }) link (All-push P link.carrier.waiting message wait came) wait

-- of one packet, where it is for the peer
abbrev pub Bodies : (List ℕ → Type 0) → List Packet → Type 0
Bodies P packets = All (λ (packet : Packet). P packet.body) packets

pub packet_comes : (P : List ℕ → Type 0) (link : LinkState) (packet : Packet) (later : List Packet) (b : Bool) → All P link.carrier.waiting
    → Bodies P (cond b (packet ∷ later) later) → All P (cond b (with_message link packet.body) link).carrier.waiting × Bodies P later
packet_comes P link packet later true wait came =
    let body = λ (p : Packet). P p.body in
    (message_comes P link packet.body wait (All-head body packet later came), All-tail body packet later came)
packet_comes P link packet later false wait came = (wait, came)

packets_come : (P : List ℕ → Type 0) (packets : List Packet) (link : LinkState) → All P link.carrier.waiting → Bodies P (filter is_for_peer packets)
    → All P (with_packets link packets).carrier.waiting
packets_come P [] link wait came = wait
packets_come P (packet ∷ packets) link wait came =
    let next = packet_comes P link packet (filter is_for_peer packets) (is_for_peer packet) wait came in
    packets_come P packets (with_packet link packet) next.0 next.1

pub bodies_sent : (sent packets : List Packet) → All (Contains sent) packets → Bodies (WasSent sent) packets
bodies_sent sent packets among = All-weaker (Contains sent) (λ (packet : Packet). WasSent sent packet.body) (λ packet there. (packet, there, refl)) packets among

sent_come : (sent packets : List Packet) (link : LinkState) → WereSent link.carrier.waiting sent → All (Contains sent) (filter is_for_peer packets)
    → WereSent (with_packets link packets).carrier.waiting sent
sent_come sent packets link wait among = packets_come (WasSent sent) packets link wait (bodies_sent sent (filter is_for_peer packets) among)

-- ---- a turn

abbrev pub Waits : SimulationState → Type 0
Waits s = WaitAfter s.world s

pub placed : (at : Side) (link : LinkState) (s : SimulationState) → Waits s → WereSent link.carrier.waiting (station_of (other at) s.world).sent → Waits (with_link at link s)
placed I link s waits new I = new
placed I link s waits new M = waits M
placed M link s waits new I = waits I
placed M link s waits new M = new

prepared_waits : (s : SimulationState) (instruction : Instruction) → Waits s → Waits (prepared s instruction)
prepared_waits s (instructions.Call side call) waits = waits
prepared_waits s (instructions.Save side count) waits = waits
prepared_waits s (instructions.Deliver side packet) waits = waits
prepared_waits s (instructions.Restart side keep) waits = waits
prepared_waits s (instructions.Plan side plan) waits = placed side (record { carrier = (link_to side s).carrier; plan = plan }) s waits (waits side)
prepared_waits s (instructions.Carry side) waits =
    let link = link_to side s in
    placed side (moved_on link) s waits (next_are (WasSent (station_of (other side) s.world).sent) link.plan link.carrier (waits side))

-- the packets of a step at a side come to those on the way to the other one
come : (at : Side) (out : List Packet) (w : WorldState) (s : SimulationState) → WaitAfter w s → All (Contains (station_of at w).sent) (filter is_for_peer out)
    → Waits (with_link (other at) (with_packets (link_to (other at) s) out) (record { world = w; to_initiating = s.to_initiating; to_matching = s.to_matching }))
come I out w s waits among I = waits I
come I out w s waits among M = sent_come w.initiating.sent out s.to_matching (waits M) among
come M out w s waits among I = sent_come w.matching.sent out s.to_initiating (waits I) among
come M out w s waits among M = waits M

any_waits : (s : SimulationState) (step : Option Step) → Waits s → Waits (after_any s step)
any_waits s None waits = waits
any_waits s (Some step) waits =
    come (side_of_step step) (out_of (world_outcome s.world step)) (world_after s.world step) s (wait_on s.world (world_after s.world step) s (after_longer s.world step) waits) (lets_out s.world step)

run_waits : (s : SimulationState) (turns : List Line) → Waits s → Waits (run s turns)
run_waits s [] waits = waits
run_waits s (line ∷ turns) waits =
    run_waits (after s line.instruction) turns
    (any_waits (prepared s line.instruction) (step_of s line.instruction) (prepared_waits s line.instruction waits))

pub new_waits : (point : List ℕ) → Waits (new_simulation point)
new_waits point I = All-nil (WasSent [])
new_waits point M = All-nil (WasSent [])

-- ---- what a carrier gives

-- a packet that was let out has a number
has_number : (packets : List Packet) (bytes : List ℕ) (place : Option ℕ) → WasSent packets bytes → position (has_bytes bytes) packets ≡ place
    → (n : ℕ) × (option_map (λ before. before + 1) place ≡ Some n) × (BytesAt packets n ≡ Some bytes)
has_number packets bytes (Some place) was found = (place + 1, refl, (numbered packets bytes place found).0)
has_number packets bytes None (packet, (k, within, is), same) found =
    let at : slice_get packets k ≡ Some packet = slice_get-get_or packets k packet within ∙ ap Some is in
    absurd (unnumbered packets bytes found (suc k) (ap (option_map (λ (p : Packet). p.body)) at ∙ ap Some same))

given_delivered : (s : SimulationState) (side : Side) → Waits s → IsDelivered s side
given_delivered s side waits bytes is =
    let link = link_to side s in
    let sent = (station_of (other side) s.world).sent in
    let was = given_is (WasSent sent) (move_at link.plan link.carrier.position) link.carrier.waiting bytes (waits side) is in
    let (n, number, at) = has_number sent bytes (position (has_bytes bytes) sent) was refl in
    (n, ap (delivering s.world side) is ∙ ap (option_map (steps.Deliver side)) number, at)

-- ---- the laws

pub both : (s : SimulationState) → Waits s → OnlySentWaits s
both s waits = record { to_initiating = waits I; to_matching = waits M }

pub either : (s : SimulationState) → OnlySentWaits s → Waits s
either s only I = only.to_initiating
either s only M = only.to_matching

pub sent_delivered : WhatWasSentIsDelivered
sent_delivered s only side = given_delivered s side (either s only)

pub only_sent_waits : OnlySentEverWaits
only_sent_waits point turns = both (run (new_simulation point) turns) (run_waits (new_simulation point) turns (new_waits point))

pub carried_delivered : WhatIsCarriedIsDelivered
carried_delivered point turns = sent_delivered (run (new_simulation point) turns) (only_sent_waits point turns)
