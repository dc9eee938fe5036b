-- A trace is pieces that begin with two spaces.
use Rattle.std.proofs.Common.{◌≡◌, ℕ, List, [], ◌∷◌, ◌++◌, append_assoc, append-nil, length, slice_get, Option, Some, None, codes, refl, sym, ap, ◌∙◌}
use Rattle.std.proofs.lemmas.Grind.{flat_map-append}
use Rattle.gi_carrier.specs.Carrier.{move_at}
use Rattle.gi_carrier.specs.Moves.{move_text}
use Rattle.gi_carrier.specs.declared.moves.Move.{Move}
use Rattle.gi_desk.specs.declared.packet.Packet.{Packet}
use Rattle.gi_messages.specs.Decoding.{decoded}
use Rattle.gi_pairs.specs.declared.side.Side.{Side}
use Rattle.gi_script.specs.declared.instruction.Instruction.{Instruction}
use Rattle.gi_script.specs.declared.instruction.Instruction.TheVariants as instructions
use Rattle.gi_simulation.specs.Laws.{IsIndented, PlainIsTheStep, TraceFollowsItsStep, TraceIsIndented, indented}
use Rattle.gi_simulation.specs.Runs.{text_of}
use Rattle.gi_simulation.specs.Simulation.{LinkState, SimulationState, link_to, out_of, outcome_of, prepared, side_of_step, step_of, with_packet}
use Rattle.gi_simulation.specs.Trace.{carried_by, is_lost, let_out, lost_text, message_text, moved_line, packet_line, packet_lines, recipient_text, trace_of}
use Rattle.gi_world.specs.World.{other, outcome as world_outcome}
use Rattle.gi_world.specs.declared.step.Step.{Step}

none : IsIndented []
none = record { pieces = []; is = refl }

one : (text piece : List ℕ) → text ≡ indented piece → IsIndented text
one text piece e = record { pieces = piece ∷ []; is = e ∙ sym (append-nil (indented piece)) }

both : (first second : List ℕ) → IsIndented first → IsIndented second → IsIndented (first ++ second)
both first second a b = record { pieces = a.pieces ++ b.pieces; is = (λ t. a.is t ++ b.is t) ∙ sym (flat_map-append indented a.pieces b.pieces) }

-- the line feed comes last
ended : (recipient message lost : List ℕ) → recipient ++ (codes " " ++ (message ++ (lost ++ codes "\n"))) ≡ (recipient ++ (codes " " ++ (message ++ lost))) ++ codes "\n"
ended recipient message lost = simp append_assoc

moved : (word message : List ℕ) → word ++ (codes " " ++ (message ++ codes "\n")) ≡ (word ++ (codes " " ++ message)) ++ codes "\n"
moved word message = simp append_assoc

line_indented : (peer : Side) (waiting : ℕ) (packet : Packet) → IsIndented (packet_line peer waiting packet)
line_indented peer waiting packet =
    let recipient = recipient_text peer packet.to in
    let message = message_text (decoded packet.body) in
    let lost = lost_text (is_lost waiting packet) in
    one (packet_line peer waiting packet) (codes "-> " ++ (recipient ++ (codes " " ++ (message ++ lost)))) (ap (λ (text : List ℕ). codes "  -> " ++ text) (ended recipient message lost))

lines_indented : (peer : Side) (link : LinkState) (packets : List Packet) → IsIndented (packet_lines peer link packets)
lines_indented peer link [] = none
lines_indented peer link (packet ∷ packets) =
    both (packet_line peer (length link.carrier.waiting) packet) (packet_lines peer (with_packet link packet) packets)
    (line_indented peer (length link.carrier.waiting) packet) (lines_indented peer (with_packet link packet) packets)

out_indented : (s : SimulationState) (step : Option Step) → IsIndented (let_out s step)
out_indented s None = none
out_indented s (Some step) = let peer = other (side_of_step step) in lines_indented peer (link_to peer s) (out_of (world_outcome s.world step))

move_indented : (made : Move) (first : Option (List ℕ)) → IsIndented (moved_line made first)
move_indented made None = none
move_indented made (Some message) =
    let word = move_text made in
    let text = message_text (decoded message) in
    one (moved_line made (Some message)) (word ++ (codes " " ++ text)) (ap (λ (rest : List ℕ). codes "  " ++ rest) (moved word text))

carried_indented : (s : SimulationState) (instruction : Instruction) → IsIndented (carried_by s instruction)
carried_indented s (instructions.Call side call) = none
carried_indented s (instructions.Save side count) = none
carried_indented s (instructions.Deliver side packet) = none
carried_indented s (instructions.Restart side keep) = none
carried_indented s (instructions.Plan side plan) = none
carried_indented s (instructions.Carry side) =
    let link = link_to side s in move_indented (move_at link.plan link.carrier.position) (slice_get link.carrier.waiting 0)

pub trace_indented : TraceIsIndented
trace_indented s instruction =
    both (carried_by s instruction) (let_out (prepared s instruction) (step_of s instruction)) (carried_indented s instruction) (out_indented (prepared s instruction) (step_of s instruction))

pub plain_step : PlainIsTheStep
plain_step s line = append-nil (text_of line (outcome_of s line.instruction))

pub trace_follows : TraceFollowsItsStep
trace_follows s line = ap (λ (text : List ℕ). text ++ trace_of s line.instruction) (sym (plain_step s line))
