-- The lines that a running office writes: what came of each line that it was given, and each packet that it lets out.
use Rattle.std.specs.Prelude.{ℕ, List, [], ◌++◌, codes, Option, None, Some}
use Rattle.std.specs.Fmt.{decimal}
use Rattle.gi_day.specs.Day.{day_text}
use Rattle.gi_pairs.specs.declared.cycle_id.CycleId.{CycleId}
use Rattle.gi_desk.specs.FaultText.{refusal_text}
use Rattle.gi_desk.specs.declared.packet.Packet.{Packet}
use Rattle.gi_desk.specs.declared.packet.Recipient.{Recipient}
use Rattle.gi_desk.specs.declared.packet.Recipient.TheVariants.{Peer, User}
use Rattle.gi_desk.specs.declared.reply.Answer.{Answer}
use Rattle.gi_desk.specs.declared.reply.Answer.TheVariants.{Recorded, Repeat, Kept, Saved, Resent, Stopped, Refused}

-- ---- what came of a line

-- `,"portfolio":"A"`, where one is named
abbrev pub portfolio_part : Option (List ℕ) → List ℕ
portfolio_part None = []
portfolio_part (Some code) = codes ",\"portfolio\":\"" ++ (code ++ codes "\"")

-- `{"answer":"refused","line":6,"name":"Stale 2","portfolio":"A"}`
abbrev pub refused_text : ℕ → List ℕ → Option (List ℕ) → List ℕ
refused_text line name portfolio =
    codes "{\"answer\":\"refused\",\"line\":" ++ (decimal line ++ (codes ",\"name\":\"" ++ (name ++ (codes "\"" ++ (portfolio_part portfolio ++ codes "}\n")))))

-- `{"answer":"recorded","fact":2,"line":4}`
abbrev pub answer_text : ℕ → Answer → Option (List ℕ) → List ℕ
answer_text line (Recorded n) portfolio = codes "{\"answer\":\"recorded\",\"fact\":" ++ (decimal n ++ (codes ",\"line\":" ++ (decimal line ++ codes "}\n")))
answer_text line (Repeat n) portfolio = codes "{\"answer\":\"repeat\",\"fact\":" ++ (decimal n ++ (codes ",\"line\":" ++ (decimal line ++ codes "}\n")))
answer_text line (Kept have parts) portfolio =
    codes "{\"answer\":\"kept\",\"have\":" ++ (decimal have ++ (codes ",\"line\":" ++ (decimal line ++ (codes ",\"parts\":" ++ (decimal parts ++ codes "}\n")))))
answer_text line (Saved n) portfolio = codes "{\"answer\":\"saved\",\"fact\":" ++ (decimal n ++ (codes ",\"line\":" ++ (decimal line ++ codes "}\n")))
answer_text line Resent portfolio = codes "{\"answer\":\"resent\",\"line\":" ++ (decimal line ++ codes "}\n")
answer_text line Stopped portfolio = codes "{\"answer\":\"stopped\",\"line\":" ++ (decimal line ++ codes "}\n")
answer_text line (Refused refusal) portfolio = refused_text line (refusal_text refusal) portfolio

-- `{"answer":"due","cycles":2,"line":7}`: how many cycles are closed, each of which has an answer of its own
abbrev pub due_text : ℕ → ℕ → List ℕ
due_text line cycles = codes "{\"answer\":\"due\",\"cycles\":" ++ (decimal cycles ++ (codes ",\"line\":" ++ (decimal line ++ codes "}\n")))

-- `{"answer":"closed","cycle":35,"day":"2026-01-15","fact":9,"line":7}`: a cycle that is closed since it is due
abbrev pub closed_text : ℕ → CycleId → Answer → List ℕ
closed_text line id (Recorded n) =
    codes "{\"answer\":\"closed\",\"cycle\":" ++ (decimal id.cycle ++ (codes ",\"day\":\"" ++ (day_text id.day
    ++ (codes "\",\"fact\":" ++ (decimal n ++ (codes ",\"line\":" ++ (decimal line ++ codes "}\n")))))))
closed_text line id answer = answer_text line answer None

-- ---- a packet

-- the number of the fact that lets it out, where one is named
abbrev pub fact_part : Option ℕ → List ℕ
fact_part None = codes "{\"message\":"
fact_part (Some n) = codes "{\"fact\":" ++ (decimal n ++ codes ",\"message\":")

-- `peer` for the other operator, else the portfolio
abbrev pub recipient_part : Recipient → List ℕ
recipient_part Peer = codes ",\"to\":\"peer\"}\n"
recipient_part (User portfolio) = codes ",\"to\":\"" ++ (portfolio ++ codes "\"}\n")

-- `{"fact":2,"message":{..},"to":"A"}`
abbrev pub packet_text : Option ℕ → Packet → List ℕ
packet_text fact packet = fact_part fact ++ (packet.body ++ recipient_part packet.to)
