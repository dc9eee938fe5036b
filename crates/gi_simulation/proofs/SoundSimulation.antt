-- What waits on its way was let out, whatever memory there is.
use Rattle.std.proofs.Common.{◌≡◌, ◌⊎◌, ℕ, List, ◌∷◌, filter, All, Contains, Result, Ok, Err, OnErr, OnOk, inl, inr, refl, sym, ap, subst, ◌∙◌}
use Rattle.std.proofs.lemmas.List.Elements.{All-contains, All-contains_itself, All-weaker}
use Rattle.gi_carrier.specs.declared.moves.Move.{Move}
use Rattle.gi_desk.specs.Machine.{is_for_peer}
use Rattle.gi_desk.specs.declared.packet.Packet.{Packet}
use Rattle.gi_desk.specs.declared.reply.Reply.{Reply}
use Rattle.gi_pairs.specs.declared.side.Side.{Side}
use Rattle.gi_pairs.specs.declared.side.Side.TheVariants.{I, M}
use Rattle.gi_simulation.specs.OnItsWay.{IsSound, WaitedOrCame, WasSent, WereLetOut, WereSent}
use Rattle.gi_simulation.specs.Simulation.{LinkState, SimulationState, link_to, moved_on, new_simulation, side_of_step, with_link, with_packet}
use Rattle.gi_simulation.proofs.NewWorld.{new_one_quantity}
use Rattle.gi_simulation.proofs.OnItsWay.{AreAmong, Bodies, both, either, lets_out, new_waits, packet_comes, placed, wait_on}
use Rattle.gi_carrier.proofs.CarrierLaws.{next_are}
use Rattle.gi_world.specs.Headline.{OneConfirmedQuantity}
use Rattle.gi_world.specs.Histories.{held}
use Rattle.gi_world.specs.Keeping.{OnlyAppends}
use Rattle.gi_world.specs.World.{IsStep, WorldState, after as world_after, other, outcome as world_outcome, station_of}
use Rattle.gi_world.specs.declared.step.Step.{Step}
use Rattle.gi_world.specs.declared.world_fault.WorldFault.{WorldFault}
use Rattle.gi_world.specs.declared.world_fault.WorldFault.TheVariants.{OutOfMemory}
use Rattle.gi_world.specs.declared.world_reply.WorldReply.{WorldReply}
use Rattle.gi_world.specs.declared.world_reply.WorldReply.TheVariants.{Desk}

-- ---- packets that come, one after the other

abbrev pub Came : LinkState → List Packet → List ℕ → Type 0
Came old packets message = Contains old.carrier.waiting message ⊎ WasSent (filter is_for_peer packets) message

pub came_first : (link : LinkState) (packets : List Packet) → WaitedOrCame link packets link × Bodies (Came link packets) (filter is_for_peer packets)
came_first link packets =
    let waiting = link.carrier.waiting in
    let out = filter is_for_peer packets in (
      All-weaker (Contains waiting) (Came link packets) (λ message there. inl there) waiting (All-contains_itself waiting),
      All-weaker (Contains out) (λ (packet : Packet). Came link packets packet.body) (λ packet there. inr (packet, there, refl)) out (All-contains_itself out),
    )

pub came_next : (old link next : LinkState) (packets all later : List Packet) (packet : Packet) → all ≡ packet ∷ later → next ≡ with_packet link packet
    → WaitedOrCame old packets link → Bodies (Came old packets) (filter is_for_peer all)
    → WaitedOrCame old packets next × Bodies (Came old packets) (filter is_for_peer later)
came_next old link next packets all later packet front is wait came =
    let first = subst (λ (left : List Packet). Bodies (Came old packets) (filter is_for_peer left)) front came in
    let (now, others) = packet_comes (Came old packets) link packet (filter is_for_peer later) (is_for_peer packet) wait first in
    (subst (WaitedOrCame old packets) (sym is) now, others)

-- ---- what comes to a simulation

pub new_sound : (point : List ℕ) (s : SimulationState) → s ≡ new_simulation point → IsSound s
new_sound point s is =
    subst IsSound (sym is) (record {
      one_quantity = new_one_quantity point (new_simulation point).world refl;
      waits = both (new_simulation point) (new_waits point);
    })

-- the world makes a step
pub world_on : (s : SimulationState) (new : WorldState) → IsSound s → OnlyAppends s.world new → OneConfirmedQuantity (held new)
    → IsSound (record { world = new; to_initiating = s.to_initiating; to_matching = s.to_matching })
world_on s new sound appends one =
    let next : SimulationState = record { world = new; to_initiating = s.to_initiating; to_matching = s.to_matching } in
    record { one_quantity = one; waits = both next (same (wait_on s.world new s (λ side. (appends side).0) (either s sound.waits))) }
  where
    same : ((side : Side) → WereSent (link_to side s).carrier.waiting (station_of (other side) new).sent) → (side : Side)
        → WereSent (link_to side (record { world = new; to_initiating = s.to_initiating; to_matching = s.to_matching })).carrier.waiting (station_of (other side) new).sent
    same waits I = waits I
    same waits M = waits M

-- another link is on the way to a side
pub link_on : (at : Side) (s : SimulationState) (link : LinkState) → IsSound s → WereSent link.carrier.waiting (station_of (other at) s.world).sent → IsSound (with_link at link s)
link_on at s link sound wait = record { one_quantity = same_world at sound.one_quantity; waits = both (with_link at link s) (placed at link s (either s sound.waits) wait) }
  where
    same_world : (at : Side) → OneConfirmedQuantity (held s.world) → OneConfirmedQuantity (held (with_link at link s).world)
    same_world I one = one
    same_world M one = one

-- the same as before, or the next
either_way : {T E : Type 0} (P : LinkState → Type 0) (r : Result T E) (old next new : LinkState) → OnOk r (new ≡ next) → OnErr r (new ≡ old) → P old → P next → P new
either_way P (Ok x) old next new made kept before after = subst P (sym made) after
either_way P (Err e) old next new made kept before after = subst P (sym kept) before

link_sound : {T E : Type 0} (at : Side) (s : SimulationState) (r : Result T E) (next new : LinkState) → IsSound s → OnOk r (new ≡ next) → OnErr r (new ≡ link_to at s)
    → WereSent next.carrier.waiting (station_of (other at) s.world).sent → IsSound (with_link at new s)
link_sound at s r next new sound made kept wait =
    let sent = (station_of (other at) s.world).sent in
    link_on at s new sound (either_way (λ (link : LinkState). WereSent link.carrier.waiting sent) r (link_to at s) next new made kept (either s sound.waits at) wait)

-- a plan is set
pub set_sound : {T E : Type 0} (at : Side) (s : SimulationState) (plan : List Move) (r : Result T E) (new : LinkState) → IsSound s
    → OnOk r (new ≡ record { carrier = (link_to at s).carrier; plan = plan }) → OnErr r (new ≡ link_to at s) → IsSound (with_link at new s)
set_sound at s plan r new sound made kept =
    link_sound at s r (record { carrier = (link_to at s).carrier; plan = plan }) new sound made kept (either s sound.waits at)

-- a carrier makes its move
pub next_sound : {T E : Type 0} (at : Side) (s : SimulationState) (r : Result T E) (new : LinkState) → IsSound s → OnOk r (new ≡ moved_on (link_to at s))
    → OnErr r (new ≡ link_to at s) → IsSound (with_link at new s)
next_sound at s r new sound made kept =
    let link = link_to at s in
    link_sound at s r (moved_on link) new sound made kept (next_are (WasSent (station_of (other at) s.world).sent) link.plan link.carrier (either s sound.waits at))

-- packets of the other side come
sent_on : (sent packets : List Packet) (old new : LinkState) → WereSent old.carrier.waiting sent → All (Contains sent) (filter is_for_peer packets)
    → WaitedOrCame old packets new → WereSent new.carrier.waiting sent
sent_on sent packets old new wait among came = All-weaker (Came old packets) (WasSent sent) was new.carrier.waiting came
  where
    was : (message : List ℕ) → Came old packets message → WasSent sent message
    was message (inl waited) = All-contains (WasSent sent) old.carrier.waiting message wait waited
    was message (inr (packet, there, same)) = (packet, All-contains (Contains sent) (filter is_for_peer packets) packet among there, same)

pub send_sound : (side at : Side) (now s : SimulationState) (packets : List Packet) (new : LinkState) → side ≡ at → s ≡ now → IsSound s
    → WereLetOut (other side) now.world packets → WaitedOrCame (link_to at s) packets new → IsSound (with_link at new s)
send_sound side at now s packets new place is sound out came =
    let here = subst (λ (x : Side). WereLetOut (other x) now.world packets) place out in
    let among = subst (λ (x : SimulationState). WereLetOut (other at) x.world packets) (sym is) here in
    link_on at s new sound (sent_on (station_of (other at) s.world).sent packets (link_to at s) new (either s sound.waits at) among came)

-- what a step lets out for the peer, its side let out
pub reply_let_out : (old new : WorldState) (step : Step) (reply : Reply) (r : Result WorldReply WorldFault) → IsStep old step r new → r ≡ Ok (Desk reply)
    → WereLetOut (side_of_step step) new reply.out
reply_let_out old new step reply r (inl made) is =
    let out : Ok (Desk reply) ≡ world_outcome old step = sym is ∙ made.0 in
    subst (λ (w : WorldState). WereLetOut (side_of_step step) w reply.out) (sym made.1)
    (subst (AreAmong (station_of (side_of_step step) (world_after old step)).sent) (sym out) (lets_out old step))
reply_let_out old new step reply r (inr refused) is =
    let never : Err OutOfMemory ≡ Ok (Desk reply) = sym refused.0 ∙ is in absurd cc

other_of_other : (side : Side) → other (other side) ≡ side
other_of_other I = refl
other_of_other M = refl

-- which is the other side of the peer
pub let_out_to : (peer at by : Side) (w : WorldState) (out items : List Packet) → peer ≡ other at → at ≡ by → items ≡ out → WereLetOut by w out → WereLetOut (other peer) w items
let_out_to peer at by w out items peer_is at_is same let_out =
    let by_is : by ≡ other peer = sym at_is ∙ sym (other_of_other at) ∙ ap other (sym peer_is) in
    subst (λ (x : Side). WereLetOut x w items) by_is (subst (λ (packets : List Packet). WereLetOut by w packets) (sym same) let_out)
