-- Where a pair gets less than was nominated, and who cut it.
use Rattle.std.specs.Prelude.{◌≡◌, ℕ, ◌-◌, min, List, [], ◌∷◌, nat_lt, if◌then◌else◌, Option, Some, option_map}
use Rattle.std.specs.List.{flat_map, range_with_len}
use Rattle.gi_pairs.specs.Row.{key_of}
use Rattle.gi_pairs.specs.Table.{TableContents, covered, reading}
use Rattle.gi_pairs.specs.declared.cycle_id.CycleId.{CycleId}
use Rattle.gi_pairs.specs.declared.key.Key.{Key}
use Rattle.gi_pairs.specs.declared.row.Row.{Row}
use Rattle.gi_pairs.specs.declared.side.Side.{Side}
use Rattle.gi_messages.specs.declared.nomination_line.NominationLine.{NominationLine}
use Rattle.gi_facts.specs.declared.fact.Fact.{Fact}
use Rattle.gi_desk.specs.Machine.{DeskState}
use Rattle.gi_desk.specs.Queries.{confirmed, frozen, meeting}
use Rattle.gi_reports.specs.Cycles.{AreClosedCycles}
use Rattle.gi_schedule.specs.Nominated.{nominated_line, quantity_if}
use Rattle.gi_schedule.specs.Wanted.{wants_day, wants_pair}
use Rattle.gi_schedule.specs.declared.cut_line.CutLine.{CutLine}
use Rattle.gi_schedule.specs.declared.wanted.Wanted.{Wanted}

abbrev pub read_at : Key → ℕ → TableContents → ℕ
read_at key hour table = reading table key.pair key.direction hour

-- The side's own capacity cuts what is nominated to what it processes, and the other operator what is left of it to what is
-- confirmed.
abbrev pub line_of : CycleId → Key → ℕ → ℕ → ℕ → ℕ → ℕ → CutLine
line_of id key hour nominated processed peer confirmed = record {
  id = id;
  direction = key.direction;
  pair = key.pair;
  hour = hour;
  nominated = nominated;
  processed = processed;
  peer = peer;
  confirmed = confirmed;
  by_capacity = nominated - processed;
  by_peer = min nominated processed - confirmed;
}

-- an hour of a pair and a direction, by the three tables of a cycle
abbrev pub hour_cut : CycleId → Key → Option NominationLine → TableContents → TableContents → TableContents → ℕ → CutLine
hour_cut id key line own peer confirmed hour =
    line_of id key hour (quantity_if hour line) (read_at key hour own) (read_at key hour peer) (read_at key hour confirmed)

-- where less is confirmed than was nominated
abbrev pub if_cut : CutLine → List CutLine
if_cut line = if nat_lt line.confirmed line.nominated then line ∷ [] else []

-- the hours of a row, from the table's first hour on
abbrev pub key_cuts : CycleId → Key → Option NominationLine → TableContents → TableContents → TableContents → List CutLine
key_cuts id key line own peer confirmed =
    flat_map (λ hour. if_cut (hour_cut id key line own peer confirmed hour)) (range_with_len own.first (covered own.first own.last))

abbrev pub row_cuts : Side → DeskState → Wanted → CycleId → TableContents → TableContents → TableContents → Row → List CutLine
row_cuts side s wanted id own peer confirmed row =
    if wants_pair wanted.portfolio row.pair then key_cuts id (key_of row) (nominated_line side s.facts id (key_of row)) own peer confirmed else []

-- the rows of the side's frozen table, in table order: it has one for each line that is nominated
abbrev pub cycle_cuts : Side → DeskState → Wanted → CycleId → TableContents → TableContents → TableContents → List CutLine
cycle_cuts side s wanted id own peer confirmed = flat_map (row_cuts side s wanted id own peer confirmed) own.rows

abbrev pub cuts_if : Side → DeskState → Wanted → CycleId → Option TableContents → Option TableContents → Option TableContents → List CutLine
cuts_if side s wanted id (Some own) (Some peer) (Some confirmed) = cycle_cuts side s wanted id own peer confirmed
cuts_if side s wanted id own peer confirmed = []

-- the table of the other operator that a cycle met
abbrev pub peer_table : List Fact → CycleId → Option TableContents
peer_table facts id = option_map (λ met. met.1) (meeting facts id)

-- by the three tables of a cycle, where it is confirmed
abbrev pub cycle_lines : Side → DeskState → Wanted → CycleId → List CutLine
cycle_lines side s wanted id = cuts_if side s wanted id (frozen side s.facts id) (peer_table s.facts id) (confirmed side s id)

-- the same of a wanted gas day
unfoldable pub cuts_of : Side → DeskState → Wanted → CycleId → List CutLine
cuts_of side s wanted id = if wants_day wanted.day id.day then cycle_lines side s wanted id else []

abbrev pub cuts : Side → DeskState → Wanted → List CycleId → List CutLine
cuts side s wanted ids = flat_map (cuts_of side s wanted) ids

-- the cuts of a side: each confirmed cycle, by gas day and number
pub record AreCuts (side : Side) (s : DeskState) (wanted : Wanted) (lines : List CutLine) : Type 0 where
  pub ids : List CycleId
  pub closed : AreClosedCycles s.facts ids
  pub listed : lines ≡ cuts side s wanted ids
