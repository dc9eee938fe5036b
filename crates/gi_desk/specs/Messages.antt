-- The messages that a desk writes, and the packets that carry them.
use Rattle.std.specs.Prelude.{ℕ, List, [], ◌∷◌, map, filter, if◌then◌else◌, Some, None}
use Rattle.std.specs.List.{range_with_len}
use Rattle.std.specs.Ordering.{is_lt}
use Rattle.std.specs.Str.{bytes_eq}
use Rattle.gi_pairs.specs.Key.{code_cmp}
use Rattle.gi_pairs.specs.Pair.{code_at}
use Rattle.gi_pairs.specs.Side.{other}
use Rattle.gi_pairs.specs.declared.row.Row.{Row}
use Rattle.gi_pairs.specs.declared.side.Side.{Side}
use Rattle.gi_pairs.specs.declared.side.Side.TheVariants.{I, M}
use Rattle.gi_messages.specs.Writing.{text_of}
use Rattle.gi_messages.specs.declared.line.Line.{Line}
use Rattle.gi_messages.specs.declared.message.Acknow.{Acknow}
use Rattle.gi_messages.specs.declared.message.Delord.{Delord}
use Rattle.gi_messages.specs.declared.message.Delres.{Delres}
use Rattle.gi_messages.specs.declared.message.Message.{Message}
use Rattle.gi_messages.specs.declared.message.Message.TheVariants as messages
use Rattle.gi_messages.specs.declared.message.Nomint.{Nomint}
use Rattle.gi_messages.specs.declared.message.Nomres.{Nomres}
pub use Rattle.gi_processing.specs.Processing.{is_row_of}
use Rattle.gi_cycles.specs.States.{FrozenCycle, MatchedCycle}
use Rattle.gi_parts.specs.Splitting.{part_of_table, parts_of_whole}
use Rattle.gi_parts.specs.declared.part.Whole.{Whole}
use Rattle.gi_desk.specs.declared.packet.Packet.{Packet}
use Rattle.gi_desk.specs.declared.packet.Recipient.TheVariants.{Peer, User}

abbrev pub to_peer : Message → Packet
to_peer message = record { to = Peer; body = text_of message }

abbrev pub to_user : List ℕ → Message → Packet
to_user portfolio message = record { to = User portfolio; body = text_of message }

-- what acknowledges a nomination
abbrev pub acknow_of : Nomint → Acknow
acknow_of document = record { point = document.point; portfolio = document.portfolio; day = document.day; version = document.version }

-- what an order of a cycle carries, its frozen table; and a response: its frozen table, and the confirmed one, which has no fewer rows
abbrev pub order_of : FrozenCycle → Whole
order_of cycle = record { processed = cycle.own; confirmed = None }

abbrev pub response_of : MatchedCycle → Whole
response_of cycle = record { processed = cycle.own; confirmed = Some cycle.confirmed }

-- The initiating operator's order: the part of this number of it, and the messages that carry all of it, in order.
abbrev pub order_part : List ℕ → FrozenCycle → ℕ → Delord
order_part point cycle number = record {
  point = point;
  day = cycle.id.day;
  cycle = cycle.id.cycle;
  parts = parts_of_whole (order_of cycle);
  part = number;
  processed = part_of_table number cycle.own;
}

abbrev pub orders_of : List ℕ → FrozenCycle → List Message
orders_of point cycle = map (λ number. messages.Delord (order_part point cycle number)) (range_with_len 1 (parts_of_whole (order_of cycle)))

-- The matching operator's response, likewise.
abbrev pub response_part : List ℕ → MatchedCycle → ℕ → Delres
response_part point cycle number = record {
  point = point;
  day = cycle.id.day;
  cycle = cycle.id.cycle;
  parts = parts_of_whole (response_of cycle);
  part = number;
  processed = part_of_table number cycle.own;
  confirmed = part_of_table number cycle.confirmed;
}

abbrev pub responses_of : List ℕ → MatchedCycle → List Message
responses_of point cycle = map (λ number. messages.Delres (response_part point cycle number)) (range_with_len 1 (parts_of_whole (response_of cycle)))

-- the side's portfolios that stand in rows, each once, by code
abbrev pub with_code : List ℕ → List (List ℕ) → List (List ℕ)
with_code code [] = code ∷ []
with_code code (x ∷ xs) = if bytes_eq code x then x ∷ xs else (if is_lt (code_cmp code x) then code ∷ x ∷ xs else x ∷ with_code code xs)

abbrev pub portfolios_in : Side → List Row → List (List ℕ)
portfolios_in side [] = []
portfolios_in side (row ∷ rows) = with_code (code_at side row.pair) (portfolios_in side rows)

-- the rows of a portfolio as lines, in table order: by counterparty, then `IM` before `MI`
abbrev pub line_of : Side → Row → Line
line_of side row = record { counterparty = code_at (other side) row.pair; direction = row.direction; hours = row.hours }

abbrev pub lines_of : Side → List ℕ → List Row → List Line
lines_of side portfolio rows = map (line_of side) (filter (is_row_of side portfolio) rows)

-- what a portfolio is told: its confirmed rows
abbrev pub told_of : Side → List ℕ → MatchedCycle → List ℕ → Nomres
told_of side point cycle portfolio = record {
  point = point;
  portfolio = portfolio;
  day = cycle.id.day;
  cycle = cycle.id.cycle;
  first = cycle.confirmed.first;
  last = cycle.confirmed.last;
  lines = lines_of side portfolio cycle.confirmed.rows;
}

unfoldable pub told_packets : Side → List ℕ → MatchedCycle → List Packet
told_packets side point cycle = map (λ portfolio. to_user portfolio (messages.Nomres (told_of side point cycle portfolio))) (portfolios_in side cycle.confirmed.rows)

-- what a role writes to its peer when a cycle is closed, and when it is met, in order
abbrev pub on_closed : Side → List ℕ → FrozenCycle → List Message
on_closed I point cycle = orders_of point cycle
on_closed M point cycle = []

abbrev pub on_met : Side → List ℕ → MatchedCycle → List Message
on_met I point cycle = []
on_met M point cycle = responses_of point cycle
