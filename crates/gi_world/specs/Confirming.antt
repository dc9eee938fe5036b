-- What both sides confirm: the lesser of what they froze.
use Rattle.std.specs.Prelude.{◌≡◌, ℕ, min, List, filter, length, take, Bool, true, Option, Some, is_some, option_map}
use Rattle.std.specs.List.{list_any}
use Rattle.gi_pairs.specs.Table.{TableContents, reading}
use Rattle.gi_pairs.specs.declared.cycle_id.CycleId.{CycleId}
use Rattle.gi_pairs.specs.declared.direction.Direction.{Direction}
use Rattle.gi_pairs.specs.declared.pair.Pair.{Pair}
use Rattle.gi_pairs.specs.declared.side.Side.{Side}
use Rattle.gi_pairs.specs.declared.side.Side.TheVariants.{I, M}
use Rattle.gi_lesser.specs.Lesser.{lesser_of}
use Rattle.gi_facts.specs.declared.fact.Fact.{Fact}
use Rattle.gi_desk.specs.History.{frozen_table, is_closed, is_closing, is_meeting, peer_of}
use Rattle.gi_desk.specs.Queries.{confirmed}
use Rattle.gi_world.specs.Histories.{Histories, History, history_of}
use Rattle.gi_world.specs.World.{WorldState, station_of}

-- the quantity that a side froze for a cycle
abbrev pub frozen_at : Side → WorldState → CycleId → Pair → Direction → ℕ → ℕ
frozen_at side w id pair direction hour = reading (frozen_table side (station_of side w).desk.facts id) pair direction hour

-- Both sides have closed the cycle, and what is confirmed reads everywhere as the lower of what they froze.
pub record IsLowerOfBoth (w : WorldState) (id : CycleId) (table : TableContents) : Type 0 where
  pub initiating : is_closed id w.initiating.desk.facts ≡ true
  pub matching : is_closed id w.matching.desk.facts ≡ true
  pub reads : (pair : Pair) (direction : Direction) (hour : ℕ) → reading table pair direction hour ≡ min (frozen_at I w id pair direction hour) (frozen_at M w id pair direction hour)

-- whatever either side has confirmed is so
abbrev pub ConfirmsTheLower : WorldState → Type 0
ConfirmsTheLower w =
    (side : Side) (id : CycleId) (table : TableContents) → confirmed side (station_of side w).desk id ≡ Some table → IsLowerOfBoth w id table

-- what the initiating side has confirmed, the matching side has
abbrev pub ConfirmsAtBoth : WorldState → Type 0
ConfirmsAtBoth w =
    (id : CycleId) (table : TableContents) → confirmed I w.initiating.desk id ≡ Some table → is_some (confirmed M w.matching.desk id) ≡ true

-- ---- the same of two histories, which steps and their answers alone tell

-- how many of the facts close the cycle
abbrev pub closing_count : CycleId → List Fact → ℕ
closing_count id facts = length (filter (is_closing id) facts)

-- A history has confirmed the cycle where a saved fact met the other side's table. The table that it confirms is then the
-- lesser of the frozen one and that one.
unfoldable pub has_confirmed : History → CycleId → Bool
has_confirmed history id = list_any (is_meeting id) (take history.saved history.facts)

unfoldable pub table_confirmed : Side → History → CycleId → Option TableContents
table_confirmed side history id = option_map (lesser_of (frozen_table side history.facts id)) (peer_of id (take history.saved history.facts))

-- a table reads everywhere as the lower of two others
abbrev pub ReadsLower : TableContents → TableContents → TableContents → Type 0
ReadsLower table initiating matching =
    (pair : Pair) (direction : Direction) (hour : ℕ) → reading table pair direction hour ≡ min (reading initiating pair direction hour) (reading matching pair direction hour)

-- two tables read alike everywhere
abbrev pub ReadAlike : TableContents → TableContents → Type 0
ReadAlike a b = (pair : Pair) (direction : Direction) (hour : ℕ) → reading a pair direction hour ≡ reading b pair direction hour

-- Each side has closed the cycle exactly once, so that each has one frozen table of it; and the table reads everywhere as
-- the lower of these two.
pub record IsLowerOfFrozen (both : Histories) (id : CycleId) (table : TableContents) : Type 0 where
  pub initiating : closing_count id both.initiating.facts ≡ 1
  pub matching : closing_count id both.matching.facts ≡ 1
  pub reads : ReadsLower table (frozen_table I both.initiating.facts id) (frozen_table M both.matching.facts id)

-- A side confirms a table of just the cycles that it has confirmed; it is the lower of both frozen ones; what the initiating
-- side has confirmed, the matching side has; and where both have, their tables read alike.
pub record ConfirmsByHistory (both : Histories) : Type 0 where
  pub tables : (side : Side) (id : CycleId) → is_some (table_confirmed side (history_of side both) id) ≡ has_confirmed (history_of side both) id
  pub lower : (side : Side) (id : CycleId) (table : TableContents) → table_confirmed side (history_of side both) id ≡ Some table → IsLowerOfFrozen both id table
  pub matching_too : (id : CycleId) → has_confirmed both.initiating id ≡ true → has_confirmed both.matching id ≡ true
  pub alike : (id : CycleId) (initiating matching : TableContents) → table_confirmed I both.initiating id ≡ Some initiating
      → table_confirmed M both.matching id ≡ Some matching → ReadAlike initiating matching
