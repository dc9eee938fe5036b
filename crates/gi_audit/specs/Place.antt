-- Where a table that a side met and the one that its peer wrote differ first.
use Rattle.std.specs.Prelude.{◌≡◌, ◌≢◌, ◌<◌, ◌≤◌, ℕ, zero, suc, ◌+◌, ◌-◌, List, [], ◌++◌, Bool, not, nat_eq, if◌then◌else◌, Option, None, Some, option_map, slice_get, codes}
use Rattle.std.specs.Fmt.{decimal}
use Rattle.std.specs.Ordering.{is_lt}
use Rattle.gi_pairs.specs.Direction.{direction_text}
use Rattle.gi_pairs.specs.Key.{key_cmp}
use Rattle.gi_pairs.specs.Limits.{last_hour}
use Rattle.gi_pairs.specs.Row.{key_of}
use Rattle.gi_pairs.specs.Table.{TableContents, reading}
use Rattle.gi_pairs.specs.declared.key.Key.{Key}
use Rattle.gi_pairs.specs.declared.row.Row.{Row}
use Rattle.gi_pairs.specs.declared.side.Side.{Side}
use Rattle.gi_pairs.specs.declared.side.Side.TheVariants.{I, M}
use Rattle.gi_pairs.specs.declared.cycle_id.CycleId.{CycleId}
use Rattle.gi_desk.specs.Deciding.{difference}
use Rattle.gi_desk.specs.History.{peer_of}
use Rattle.gi_desk.specs.Machine.{DeskState}
use Rattle.gi_audit.specs.Sent.{sent_table}
use Rattle.gi_audit.specs.declared.finding.Finding.{Finding}
use Rattle.gi_audit.specs.declared.finding.Finding.TheVariants.{Agreed, OpenAtInitiating, OpenAtBoth, Differs}
use Rattle.gi_audit.specs.declared.place.HourDifference.{HourDifference}
use Rattle.gi_audit.specs.declared.place.Place.{Place}

-- What a row at which two tables differ is for. Of two rows for other keys the lower one is missing in the other table, since
-- rows stand in table order; where the keys are equal, the quantities differ.
abbrev pub lower_key : Option Row → Option Row → Option Key
lower_key (Some met) (Some written) = Some (if is_lt (key_cmp (key_of written) (key_of met)) then key_of written else key_of met)
lower_key (Some met) None = Some (key_of met)
lower_key None (Some written) = Some (key_of written)
lower_key None None = None

-- row number n of both, from 1
abbrev pub key_by : TableContents → TableContents → Option ℕ → Option Key
key_by met written None = None
key_by met written (Some n) = lower_key (slice_get met.rows (n - 1)) (slice_get written.rows (n - 1))

-- what the first row that differs is for
abbrev pub key_at : TableContents → TableContents → Option Key
key_at met written = key_by met written (difference met.rows written.rows)

-- the tables read another quantity there
abbrev pub differs_in : TableContents → TableContents → Key → ℕ → Bool
differs_in met written key hour = not (nat_eq (reading met key.pair key.direction hour) (reading written key.pair key.direction hour))

-- the first hour in which they do, of so many from this one on
abbrev pub differing_from : TableContents → TableContents → Key → ℕ → ℕ → Option ℕ
differing_from met written key zero hour = None
differing_from met written key (suc more) hour =
    if differs_in met written key hour then Some hour else differing_from met written key more (hour + 1)

-- the first such hour of the longest gas day, and what both tables read in it
unfoldable pub differing_hour : TableContents → TableContents → Key → Option ℕ
differing_hour met written key = differing_from met written key last_hour 1

abbrev pub read_in : TableContents → TableContents → Key → ℕ → HourDifference
read_in met written key hour =
    record { hour = hour; met = reading met key.pair key.direction hour; written = reading written key.pair key.direction hour }

abbrev pub hour_at : TableContents → TableContents → Key → Option HourDifference
hour_at met written key = option_map (read_in met written key) (differing_hour met written key)

abbrev pub place_at : TableContents → TableContents → Key → Place
place_at met written key = record { key = key; hour = hour_at met written key }

-- the first row in which two tables differ, and there the first hour
abbrev pub first_place : TableContents → TableContents → Option Place
first_place met written = option_map (place_at met written) (key_at met written)

-- ---- which place that is

-- The row is for this key: before it both tables have the same rows, and there they do not.
pub record IsFirstRow (met written : TableContents) (key : Key) : Type 0 where
  pub before : List Row
  pub met_rest : List Row
  pub written_rest : List Row
  pub met_rows : met.rows ≡ before ++ met_rest
  pub written_rows : written.rows ≡ before ++ written_rest
  pub differ : slice_get met_rest 0 ≢ slice_get written_rest 0
  pub for_key : lower_key (slice_get met_rest 0) (slice_get written_rest 0) ≡ Some key

-- the tables read the same there
abbrev pub ReadAlikeIn : TableContents → TableContents → Key → ℕ → Type 0
ReadAlikeIn met written key hour = reading met key.pair key.direction hour ≡ reading written key.pair key.direction hour

-- What the tables read in that hour is told, and they differ; and in each hour before it they read the same.
pub record IsFirstHour (met written : TableContents) (key : Key) (told : HourDifference) : Type 0 where
  pub from : 1 ≤ told.hour
  pub to : told.hour ≤ last_hour
  pub met_reads : told.met ≡ reading met key.pair key.direction told.hour
  pub written_reads : told.written ≡ reading written key.pair key.direction told.hour
  pub differ : told.met ≢ told.written
  pub before : (hour : ℕ) → 1 ≤ hour → hour < told.hour → ReadAlikeIn met written key hour

-- where no hour is told they read the same in each
abbrev pub IsHourTold : TableContents → TableContents → Key → Option HourDifference → Type 0
IsHourTold met written key None = (hour : ℕ) → 1 ≤ hour → hour ≤ last_hour → ReadAlikeIn met written key hour
IsHourTold met written key (Some told) = IsFirstHour met written key told

pub record IsFirstPlace (met written : TableContents) (place : Place) : Type 0 where
  pub row : IsFirstRow met written place.key
  pub hour : IsHourTold met written place.key place.hour

-- ---- of a cycle

abbrev pub place_in_tables : Option TableContents → Option TableContents → Option Place
place_in_tables None written = None
place_in_tables (Some met) None = None
place_in_tables (Some met) (Some written) = first_place met written

-- where the table that a side met of a cycle differs from the one that its peer, the other side, has written
unfoldable pub place_between : Side → DeskState → DeskState → CycleId → Option Place
place_between other s peer id = place_in_tables (peer_of id s.facts) (sent_table other peer id)

abbrev pub place_met_by : Side → DeskState → DeskState → CycleId → Option Place
place_met_by I initiating matching id = place_between M initiating matching id
place_met_by M initiating matching id = place_between I matching initiating id

-- where what is found differs
abbrev pub place_found : Finding → DeskState → DeskState → CycleId → Option Place
place_found (Differs difference) initiating matching id = place_met_by difference.side initiating matching id
place_found (Agreed im mi) initiating matching id = None
place_found OpenAtInitiating initiating matching id = None
place_found OpenAtBoth initiating matching id = None

-- ---- in words

-- ` 24 met 8 written 10`
abbrev pub hour_text : HourDifference → List ℕ
hour_text differs = codes " " ++ (decimal differs.hour ++ (codes " met " ++ (decimal differs.met ++ (codes " written " ++ decimal differs.written))))

abbrev pub any_hour_text : Option HourDifference → List ℕ
any_hour_text None = []
any_hour_text (Some differs) = hour_text differs

-- ` at A B IM`, and the hour
abbrev pub place_text : Place → List ℕ
place_text place =
    codes " at " ++ (place.key.pair.initiating ++ (codes " " ++ (place.key.pair.matching ++ (codes " "
    ++ (direction_text place.key.direction ++ any_hour_text place.hour)))))

abbrev pub any_place_text : Option Place → List ℕ
any_place_text None = []
any_place_text (Some place) = place_text place
