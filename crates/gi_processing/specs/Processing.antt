-- The processed quantities of a side: what is nominated in its gas day's hours, reduced to what is available.
-- Source: Regulation (EU) 2015/703 names them; the formula is this project's.
use Rattle.std.specs.Prelude.{◌≡◌, ◌↔◌, ℕ, ◌-◌, ◌<◌, ◌≤◌, List, [], length, map, slice_index, sum, count_by, Contains, Option, Some, None, Bool, true}
use Rattle.std.specs.List.{IsDistinct, flat_map, range_with_len}
use Rattle.std.specs.Str.{bytes_eq}
use Rattle.jiff_core.specs.declared.civil.date.Date.{Date}
use Rattle.gi_day.specs.Cycles.{first_hour, hour_count}
use Rattle.gi_pairs.specs.Limits.{last_hour}
use Rattle.gi_pairs.specs.Pair.{code_at, pair_of}
use Rattle.gi_pairs.specs.Table.{TableContents, IsTable, covered, in_order, keys_of, reading}
use Rattle.gi_pairs.specs.declared.direction.Direction.{Direction}
use Rattle.gi_pairs.specs.declared.key.Key.{Key}
use Rattle.gi_pairs.specs.declared.row.Row.{Row}
use Rattle.gi_pairs.specs.declared.side.Side.{Side}
use Rattle.gi_messages.specs.declared.nomination_line.NominationLine.{NominationLine}
use Rattle.gi_messages.specs.declared.message.Nomint.{Nomint}
use Rattle.gi_nominations.specs.Book.{in_force}
use Rattle.gi_nominations.specs.Lines.{lines_fault, most_lines}
use Rattle.gi_processing.specs.Capacity.{Capacity, available, knows}
use Rattle.gi_processing.specs.CapacityLimits.{most_portfolios}
use Rattle.gi_processing.specs.Recording.{portfolios_of}
use Rattle.gi_processing.specs.declared.rule.Rule.{Rule}
use Rattle.gi_processing.specs.declared.span.Span.{Span}
use Rattle.gi_processing.specs.Reduction.{IsReduction, by_counterparty, in_direction, left_for, part, part_by, parts, quantity_at, sharing, total}

-- the lines of the nomination in force, none where there is none
abbrev pub lines_of : Option Nomint → List NominationLine
lines_of None = []
lines_of (Some document) = document.lines

unfoldable pub lines_in_force : List ℕ → Date → List Nomint → List NominationLine
lines_in_force portfolio day documents = lines_of (in_force portfolio day documents)

-- what the line's row is for
abbrev pub line_key : Side → List ℕ → NominationLine → Key
line_key side portfolio line = record { pair = pair_of side portfolio line.counterparty; direction = line.direction }

-- what is available to the portfolio
abbrev pub available_to : Capacity → List ℕ → Date → Direction → ℕ → ℕ
available_to capacity = available capacity.contracts capacity.notices

-- what is processed by a rule of a line, which is one of these, in an hour; hours are numbered from 1
unfoldable pub processed_in : Rule → Capacity → List ℕ → Date → List NominationLine → NominationLine → ℕ → ℕ
processed_in rule capacity portfolio day lines line hour =
    part_by rule (available_to capacity portfolio day line.direction hour) (hour - 1) (in_direction line.direction lines) line

-- hours of the gas day
pub record IsSpan (span : Span) : Type 0 where
  pub from : 1 ≤ span.first
  pub ordered : span.first ≤ span.last
  pub to : span.last ≤ hour_count span.day
  pub ends : span.last ≤ last_hour

-- a line's row
unfoldable pub processed_row : Capacity → Span → List ℕ → List NominationLine → NominationLine → Row
processed_row capacity span portfolio lines line = record {
  pair = pair_of span.side portfolio line.counterparty;
  direction = line.direction;
  hours = map (processed_in span.rule capacity portfolio span.day lines line) (range_with_len span.first (covered span.first span.last));
}

-- what is processed of lines of one direction that share what those before them leave, in each hour
abbrev pub columns : Capacity → Span → List ℕ → Direction → List NominationLine → List NominationLine → List (List ℕ)
columns capacity span portfolio direction before lines =
    map (λ hour. parts (available_to capacity portfolio span.day direction hour - total (hour - 1) before) (hour - 1) lines) (range_with_len span.first (covered span.first span.last))

-- the row of one of them
unfoldable pub group_row : Capacity → Span → List ℕ → Direction → List NominationLine → List NominationLine → NominationLine → Row
group_row capacity span portfolio direction before lines line = record {
  pair = pair_of span.side portfolio line.counterparty;
  direction = line.direction;
  hours = map (λ hour. part (available_to capacity portfolio span.day direction hour - total (hour - 1) before) (hour - 1) lines line) (range_with_len span.first (covered span.first span.last));
}

-- the row of a line by the rule, among the lines of its direction
unfoldable pub ruled_row : Rule → Capacity → Span → List ℕ → Direction → List NominationLine → NominationLine → Row
ruled_row rule capacity span portfolio direction lines line = record {
  pair = pair_of span.side portfolio line.counterparty;
  direction = line.direction;
  hours = map (λ hour. part_by rule (available_to capacity portfolio span.day direction hour) (hour - 1) lines line) (range_with_len span.first (covered span.first span.last));
}

-- the row of the line at a place, from what is processed of all lines in each hour
abbrev pub row_at : Span → List ℕ → NominationLine → List (List ℕ) → ℕ → Row
row_at span portfolio line of_hours place = record {
  pair = pair_of span.side portfolio line.counterparty;
  direction = line.direction;
  hours = map (λ column. slice_index column place) of_hours;
}

-- the rows of a portfolio: one for each line in force, zeros too
unfoldable pub portfolio_rows : Capacity → Span → List Nomint → List ℕ → List Row
portfolio_rows capacity span documents portfolio =
    let lines = lines_in_force portfolio span.day documents in map (processed_row capacity span portfolio lines) lines

abbrev pub processed_rows : Capacity → Span → List Nomint → List Row
processed_rows capacity span documents = flat_map (portfolio_rows capacity span documents) (portfolios_of capacity.contracts)

-- their table
abbrev pub span_table : Capacity → Span → List Nomint → TableContents
span_table capacity span documents = record { first = span.first; last = span.last; rows = in_order (processed_rows capacity span documents) }

-- the hours that a cycle covers, to the last one of the gas day
abbrev pub span_of : Side → Date → ℕ → Rule → Span
span_of side day cycle rule = record { side = side; day = day; first = first_hour day cycle; last = hour_count day; rule = rule }

-- the processed table of a cycle by a rule
unfoldable pub processed : Capacity → List Nomint → Side → Date → ℕ → Rule → TableContents
processed capacity documents side day cycle rule = span_table capacity (span_of side day cycle rule) documents

-- whether a row is of a portfolio of the side
abbrev pub is_row_of : Side → List ℕ → Row → Bool
is_row_of side portfolio row = bytes_eq (code_at side row.pair) portfolio

-- each portfolio of the side has at most as many rows as a nomination has lines
abbrev pub HasFewOfEach : Side → TableContents → Type 0
HasFewOfEach side table = (portfolio : List ℕ) → count_by (is_row_of side portfolio) table.rows ≤ most_lines

-- Each nomination in force of the gas day is of a portfolio that has a contract, and its lines have no fault.
pub record IsSound (capacity : Capacity) (day : Date) (portfolio : List ℕ) (document : Nomint) : Type 0 where
  pub known : knows portfolio day capacity.contracts ≡ true
  pub lines : lines_fault (hour_count day) document.lines ≡ None

abbrev pub AreSound : Capacity → List Nomint → Date → Type 0
AreSound capacity documents day = (portfolio : List ℕ) (document : Nomint) → in_force portfolio day documents ≡ Some document → IsSound capacity day portfolio document

-- The rows of all lines in force make a table: the nominations are sound, and the known portfolios few, each once.
pub record CanProcess (capacity : Capacity) (documents : List Nomint) (span : Span) : Type 0 where
  pub hours : IsSpan span
  pub sound : AreSound capacity documents span.day
  pub few : length (portfolios_of capacity.contracts) ≤ most_portfolios
  pub distinct : IsDistinct bytes_eq (portfolios_of capacity.contracts)

-- a portfolio's line in force
abbrev pub IsInForce : List Nomint → Date → List ℕ → NominationLine → Type 0
IsInForce documents day portfolio line = Contains (lines_in_force portfolio day documents) line

-- what a key is for: a line in force
pub record IsLineKey (documents : List Nomint) (side : Side) (day : Date) (key : Key) : Type 0 where
  pub portfolio : List ℕ
  pub line : NominationLine
  pub in_force : IsInForce documents day portfolio line
  pub is : key ≡ line_key side portfolio line

-- a portfolio's lines in force in a direction, in order of counterparty
abbrev pub ordered_lines : List Nomint → Date → List ℕ → Direction → List NominationLine
ordered_lines documents day portfolio direction = by_counterparty (in_direction direction (lines_in_force portfolio day documents))

-- and those of them that share with the lines of a priority
abbrev pub ordered_sharing : Rule → ℕ → List Nomint → Date → List ℕ → Direction → List NominationLine
ordered_sharing rule priority documents day portfolio direction =
    by_counterparty (sharing rule priority (in_direction direction (lines_in_force portfolio day documents)))

-- what the lines of a portfolio that are served before those of a priority leave of what is available to it
abbrev pub left_to : Rule → ℕ → Capacity → List Nomint → Date → List ℕ → Direction → ℕ → ℕ
left_to rule priority capacity documents day portfolio direction hour =
    left_for rule priority (available_to capacity portfolio day direction hour) (hour - 1) (in_direction direction (lines_in_force portfolio day documents))

-- what the table has for lines of the portfolio
abbrev pub readings : TableContents → Side → List ℕ → ℕ → List NominationLine → List ℕ
readings table side portfolio hour = map (λ line. reading table (pair_of side portfolio line.counterparty) line.direction hour)

-- What the processed table is, apart from how it is computed: it covers the cycle's hours, has one row for each line
-- in force, and for each portfolio, direction, priority and covered hour the quantities of the lines that share, in order
-- of counterparty, are reduced to what those served before them leave: by rule 1 all lines of the direction to all that is
-- available, by rule 2 those of each priority. So none exceeds what was nominated, and where more was nominated than is
-- available, all that is available is given out.
pub record IsProcessed (capacity : Capacity) (documents : List Nomint) (side : Side) (day : Date) (cycle : ℕ) (rule : Rule) (table : TableContents) : Type 0 where
  pub is_table : IsTable table
  pub first : table.first ≡ first_hour day cycle
  pub last : table.last ≡ hour_count day
  pub keys : (key : Key) → Contains (keys_of table.rows) key ↔ IsLineKey documents side day key
  pub reduced : (portfolio : List ℕ) (direction : Direction) (priority hour : ℕ) → table.first ≤ hour → hour ≤ table.last
      → IsReduction (left_to rule priority capacity documents day portfolio direction hour)
      (map (quantity_at (hour - 1)) (ordered_sharing rule priority documents day portfolio direction))
      (readings table side portfolio hour (ordered_sharing rule priority documents day portfolio direction))
  pub within : (portfolio : List ℕ) (line : NominationLine) → IsInForce documents day portfolio line → (hour : ℕ) → table.first ≤ hour → hour ≤ table.last
      → reading table (pair_of side portfolio line.counterparty) line.direction hour ≤ quantity_at (hour - 1) line
  pub all : (portfolio : List ℕ) (direction : Direction) (hour : ℕ) → table.first ≤ hour → hour ≤ table.last
      → available_to capacity portfolio day direction hour < total (hour - 1) (in_direction direction (lines_in_force portfolio day documents))
      → sum (readings table side portfolio hour (ordered_lines documents day portfolio direction)) ≡ available_to capacity portfolio day direction hour
