-- Both offices and the carriers between them, and what an instruction of a script makes of them.
use Rattle.std.specs.Prelude.{ℕ, ◌+◌, List, [], ◌∷◌, length, position, nat_lt, if◌then◌else◌, Option, Some, None, option_map, Result, Ok, Err}
use Rattle.gi_carrier.specs.Carrier.{CarrierState, after_next, after_send, given, new_carrier}
use Rattle.gi_carrier.specs.Limits.{most_waiting}
use Rattle.gi_carrier.specs.declared.moves.Move.{Move}
use Rattle.gi_carrier.specs.declared.moves.Move.TheVariants.{Pass}
use Rattle.gi_desk.specs.Machine.{is_for_peer}
use Rattle.gi_desk.specs.Queries.{unsaved}
use Rattle.gi_desk.specs.declared.reply.Answer.{Answer}
use Rattle.gi_desk.specs.declared.reply.Answer.TheVariants as answers
use Rattle.gi_desk.specs.declared.call.Call.{Call}
use Rattle.gi_desk.specs.declared.call.Call.TheVariants.{MarkSaved}
use Rattle.gi_desk.specs.declared.packet.Packet.{Packet}
use Rattle.gi_facts.specs.declared.fact.Fact.{Fact}
use Rattle.gi_pairs.specs.declared.side.Side.{Side}
use Rattle.gi_pairs.specs.declared.side.Side.TheVariants.{I, M}
use Rattle.gi_script.specs.declared.instruction.Instruction.{Instruction}
use Rattle.gi_script.specs.declared.instruction.Instruction.TheVariants as instructions
use Rattle.gi_simulation.specs.declared.outcome.Outcome.{Outcome}
use Rattle.gi_simulation.specs.declared.outcome.Outcome.TheVariants.{Recorded, Repeat, Kept, Saved, Resent, Stopped, Restarted, Nothing, Refused, NotMade}
use Rattle.gi_world.specs.World.{WorldState, after as world_after, has_bytes, new_world, other, outcome as world_outcome, station_of}
use Rattle.gi_world.specs.declared.step.Step.{Step}
use Rattle.gi_world.specs.declared.step.Step.TheVariants as steps
use Rattle.gi_world.specs.declared.world_fault.WorldFault.{WorldFault}
use Rattle.gi_world.specs.declared.world_reply.WorldReply.{WorldReply}
use Rattle.gi_world.specs.declared.world_reply.WorldReply.TheVariants as replies

-- what is on its way to one side, and the plan by which it comes
pub record LinkState : Type 0 where
  pub carrier : CarrierState
  pub plan : List Move

-- both offices, and the ways to each
pub record SimulationState : Type 0 where
  pub world : WorldState
  pub to_initiating : LinkState
  pub to_matching : LinkState

-- at first nothing is on its way, and every message is to pass
abbrev pub new_link : LinkState
new_link = record { carrier = new_carrier; plan = Pass ∷ [] }

abbrev pub new_simulation : List ℕ → SimulationState
new_simulation point = record { world = new_world point; to_initiating = new_link; to_matching = new_link }

-- the way to a side, and the simulation with another one there
abbrev pub link_to : Side → SimulationState → LinkState
link_to I s = s.to_initiating
link_to M s = s.to_matching

abbrev pub with_link : Side → LinkState → SimulationState → SimulationState
with_link I link s = record { world = s.world; to_initiating = link; to_matching = s.to_matching }
with_link M link s = record { world = s.world; to_initiating = s.to_initiating; to_matching = link }

-- a message comes to those on the way; where the carrier is full it is lost
abbrev pub with_message : LinkState → List ℕ → LinkState
with_message link message =
    if nat_lt (length link.carrier.waiting) most_waiting then record { carrier = after_send message link.carrier; plan = link.plan }
    else link

-- those of a list of packets that are for the peer come to them, in order
abbrev pub with_packet : LinkState → Packet → LinkState
with_packet link packet = if is_for_peer packet then with_message link packet.body else link

abbrev pub with_packets : LinkState → List Packet → LinkState
with_packets link [] = link
with_packets link (packet ∷ packets) = with_packets (with_packet link packet) packets

-- the way after its carrier's next move
abbrev pub moved_on : LinkState → LinkState
moved_on link = record { carrier = after_next link.plan link.carrier; plan = link.plan }

-- ---- the step that an instruction makes

-- the mark of the next fact to save, where there is one
abbrev pub marking : Option (ℕ × Fact) → Option Call
marking None = None
marking (Some next) = Some (MarkSaved next.0 next.1)

-- the least number, from 1, of a packet with these bytes that the other side let out to this one
abbrev pub number_of : WorldState → Side → List ℕ → Option ℕ
number_of w side bytes = option_map (λ before. before + 1) (position (has_bytes bytes) (station_of (other side) w).sent)

-- the delivery of what a carrier gave, where it gave something
abbrev pub delivering : WorldState → Side → Option (List ℕ) → Option Step
delivering w side None = None
delivering w side (Some bytes) = option_map (steps.Deliver side) (number_of w side bytes)

-- `save` makes one mark, and `carry` delivers what the carrier's next move gives; a plan line makes no step
abbrev pub step_of : SimulationState → Instruction → Option Step
step_of s (instructions.Call side call) = Some (steps.Local side call)
step_of s (instructions.Save side count) = option_map (steps.Local side) (marking (unsaved (station_of side s.world).desk))
step_of s (instructions.Deliver side packet) = Some (steps.Deliver side packet)
step_of s (instructions.Restart side keep) = Some (steps.Restart side keep)
step_of s (instructions.Plan side plan) = None
step_of s (instructions.Carry side) = delivering s.world side (given (link_to side s).plan (link_to side s).carrier)

-- ---- what comes of it

abbrev pub answered : List Packet → Answer → Outcome
answered out (answers.Recorded n) = Recorded n
answered out (answers.Repeat n) = Repeat n
answered out (answers.Kept have parts) = Kept have
answered out (answers.Saved n) = Saved n
answered out answers.Resent = Resent (length out)
answered out answers.Stopped = Stopped
answered out (answers.Refused refusal) = Refused refusal

abbrev pub shown : Result WorldReply WorldFault → Outcome
shown (Ok (replies.Desk r)) = answered r.out r.answer
shown (Ok (replies.Restarted saved)) = Restarted saved
shown (Err fault) = NotMade fault

-- where no step is made, nothing came; and of a plan line nothing is said
abbrev pub outcome_without : Instruction → Option Outcome
outcome_without (instructions.Plan side plan) = None
outcome_without _ = Some Nothing

abbrev pub outcome_with : WorldState → Instruction → Option Step → Option Outcome
outcome_with w instruction None = outcome_without instruction
outcome_with w instruction (Some step) = Some (shown (world_outcome w step))

-- what comes of an instruction
abbrev pub outcome_of : SimulationState → Instruction → Option Outcome
outcome_of s instruction = outcome_with s.world instruction (step_of s instruction)

-- ---- the simulation that follows

-- the packets that a step lets out
abbrev pub out_of : Result WorldReply WorldFault → List Packet
out_of (Ok (replies.Desk r)) = r.out
out_of _ = []

-- the side at which a step is made
abbrev pub side_of_step : Step → Side
side_of_step (steps.Local side call) = side
side_of_step (steps.Deliver side packet) = side
side_of_step (steps.Restart side keep) = side

-- the world makes the step, and what it lets out for the peer goes on the way there
abbrev pub after_step : SimulationState → Step → SimulationState
after_step s step =
    let peer = other (side_of_step step) in
    with_link peer (with_packets (link_to peer s) (out_of (world_outcome s.world step)))
    (record { world = world_after s.world step; to_initiating = s.to_initiating; to_matching = s.to_matching })

abbrev pub after_any : SimulationState → Option Step → SimulationState
after_any s None = s
after_any s (Some step) = after_step s step

-- before its step, a plan line sets the plan, and `carry` makes the carrier's move
abbrev pub prepared : SimulationState → Instruction → SimulationState
prepared s (instructions.Plan side plan) = with_link side (record { carrier = (link_to side s).carrier; plan = plan }) s
prepared s (instructions.Carry side) = with_link side (moved_on (link_to side s)) s
prepared s _ = s

abbrev pub after : SimulationState → Instruction → SimulationState
after s instruction = after_any (prepared s instruction) (step_of s instruction)
