-- What the trace of a simulation tells of a turn: what the carrier did with the message that waited first, and each packet that
-- the step let out.
use Rattle.std.specs.Prelude.{ℕ, ◌==◌, List, [], ◌∷◌, ◌++◌, length, slice_get, Bool, ◌&&◌, nat_le, if◌then◌else◌, Option, Some, None, Result, Ok, Err, codes}
use Rattle.std.specs.Fmt.{decimal}
use Rattle.std.specs.List.{flat_map}
use Rattle.jiff_core.specs.declared.civil.date.Date.{Date}
use Rattle.gi_day.specs.Day.{day_text}
use Rattle.gi_pairs.specs.Direction.{direction_text}
use Rattle.gi_pairs.specs.Side.{side_text}
use Rattle.gi_pairs.specs.declared.side.Side.{Side}
use Rattle.gi_messages.specs.Decoding.{decoded}
use Rattle.gi_messages.specs.declared.line.Line.{Line}
use Rattle.gi_messages.specs.declared.message.Message.{Message}
use Rattle.gi_messages.specs.declared.message.Message.TheVariants.{Nomint, Acknow, Nomres, Delord, Delres}
use Rattle.gi_messages.specs.declared.message_fault.MessageFault.{MessageFault}
use Rattle.gi_desk.specs.Machine.{is_for_peer}
use Rattle.gi_desk.specs.declared.packet.Packet.{Packet}
use Rattle.gi_desk.specs.declared.packet.Recipient.{Recipient}
use Rattle.gi_desk.specs.declared.packet.Recipient.TheVariants.{Peer, User}
use Rattle.gi_carrier.specs.Carrier.{move_at}
use Rattle.gi_carrier.specs.Limits.{most_waiting}
use Rattle.gi_carrier.specs.Moves.{move_text}
use Rattle.gi_carrier.specs.declared.moves.Move.{Move}
use Rattle.gi_script.specs.declared.instruction.Instruction.{Instruction}
use Rattle.gi_script.specs.declared.instruction.Instruction.TheVariants as instructions
use Rattle.gi_simulation.specs.Simulation.{LinkState, SimulationState, link_to, out_of, prepared, side_of_step, step_of, with_packet}
use Rattle.gi_world.specs.World.{other, outcome as world_outcome}
use Rattle.gi_world.specs.declared.step.Step.{Step}

-- ---- a message

-- ` 4`, the quantity of an hour
abbrev pub quantity_text : ℕ → List ℕ
quantity_text quantity = codes " " ++ decimal quantity

-- ` A IM 23: 4 4`, a line of what a portfolio is told: its quantities from that hour on
abbrev pub line_text : ℕ → Line → List ℕ
line_text first line =
    codes " " ++ (line.counterparty ++ (codes " " ++ (direction_text line.direction ++ (codes " " ++ (decimal first ++ (codes ":"
    ++ flat_map quantity_text line.hours))))))

-- all of its lines, in order: a comma stands between two
abbrev pub lines_text : ℕ → List Line → List ℕ
lines_text first [] = []
lines_text first (line ∷ lines) = line_text first line ++ flat_map (λ later. codes "," ++ line_text first later) lines

-- `DELORD 2026-01-15 35`
abbrev pub numbered_text : List ℕ → Date → ℕ → List ℕ
numbered_text kind day number = kind ++ (codes " " ++ (day_text day ++ (codes " " ++ decimal number)))

-- ` part 2 of 3`, of one of several parts
abbrev pub part_text : (parts part : ℕ) → List ℕ
part_text parts part = if parts == 1 then [] else codes " part " ++ (decimal part ++ (codes " of " ++ decimal parts))

-- `DELORD 2026-01-15 35 part 2 of 3`
abbrev pub exchanged_text : List ℕ → Date → (cycle parts part : ℕ) → List ℕ
exchanged_text kind day cycle parts part = numbered_text kind day cycle ++ part_text parts part

abbrev pub known_text : Message → List ℕ
known_text (Nomint m) = numbered_text (codes "NOMINT") m.day m.version
known_text (Acknow m) = numbered_text (codes "ACKNOW") m.day m.version
known_text (Nomres m) = numbered_text (codes "NOMRES") m.day m.cycle ++ lines_text m.first m.lines
known_text (Delord m) = exchanged_text (codes "DELORD") m.day m.cycle m.parts m.part
known_text (Delres m) = exchanged_text (codes "DELRES") m.day m.cycle m.parts m.part

-- what bytes are
abbrev pub message_text : Result Message MessageFault → List ℕ
message_text (Ok m) = known_text m
message_text (Err fault) = codes "unreadable"

-- ---- the packets that a step lets out

-- the other side for a packet to the peer, and else the portfolio
abbrev pub recipient_text : Side → Recipient → List ℕ
recipient_text peer Peer = side_text peer
recipient_text peer (User portfolio) = portfolio

-- a packet for the peer is lost where so many wait already
abbrev pub is_lost : ℕ → Packet → Bool
is_lost waiting packet = is_for_peer packet && nat_le most_waiting waiting

abbrev pub lost_text : Bool → List ℕ
lost_text lost = if lost then codes " lost" else []

-- `  -> I DELRES 2026-01-15 35`, and a line feed
abbrev pub packet_line : Side → ℕ → Packet → List ℕ
packet_line peer waiting packet =
    codes "  -> " ++ (recipient_text peer packet.to ++ (codes " " ++ (message_text (decoded packet.body) ++ (lost_text (is_lost waiting packet) ++ codes "\n"))))

-- a line for each packet; those for the peer go on the way, one after the other
abbrev pub packet_lines : Side → LinkState → List Packet → List ℕ
packet_lines peer link [] = []
packet_lines peer link (packet ∷ packets) =
    packet_line peer (length link.carrier.waiting) packet ++ packet_lines peer (with_packet link packet) packets

abbrev pub let_out : SimulationState → Option Step → List ℕ
let_out s None = []
let_out s (Some step) =
    let peer = other (side_of_step step) in packet_lines peer (link_to peer s) (out_of (world_outcome s.world step))

-- ---- what the carrier does

-- `  pass DELRES 2026-01-15 35`, and a line feed; nothing where no message waits
abbrev pub moved_line : Move → Option (List ℕ) → List ℕ
moved_line move None = []
moved_line move (Some message) = codes "  " ++ (move_text move ++ (codes " " ++ (message_text (decoded message) ++ codes "\n")))

-- the move that comes, on the message that waits first
abbrev pub carried_line : LinkState → List ℕ
carried_line link = moved_line (move_at link.plan link.carrier.position) (slice_get link.carrier.waiting 0)

-- of a `carry` instruction, and nothing of another one
abbrev pub carried_by : SimulationState → Instruction → List ℕ
carried_by s (instructions.Carry side) = carried_line (link_to side s)
carried_by s _ = []

-- ---- a turn

-- the lines of an instruction: the carrier's move, then the packets
abbrev pub trace_of : SimulationState → Instruction → List ℕ
trace_of s instruction = carried_by s instruction ++ let_out (prepared s instruction) (step_of s instruction)

-- they are told where the trace is asked for
abbrev pub where_asked : Bool → List ℕ → List ℕ
where_asked trace text = if trace then text else []
