-- What the columns show of an hour, and their sums.
use Rattle.std.specs.Prelude.{ℕ, List, nat_lt, if◌then◌else◌, map, is_some, Option, Some, None}
use Rattle.std.specs.List.{list_any}
use Rattle.gi_pairs.specs.declared.direction.Direction.{Direction}
use Rattle.gi_picture.specs.Numbers.{cell}
use Rattle.gi_picture.specs.Quantities.{amounts_in, own_cut, peer_cut, value_if, whole_cut}
use Rattle.gi_picture.specs.Values.{total}
use Rattle.gi_picture.specs.declared.hour.Amounts.{Amounts}
use Rattle.gi_picture.specs.declared.hour.Hour.{Hour}
use Rattle.gi_day_tables.specs.declared.column.Column.{Column}
use Rattle.gi_day_tables.specs.declared.column.Column.TheVariants.{Cut, InForce, Lost, Nominated, OwnCut, PeerCut, Peers, Processed, Waiting}
use Rattle.gi_day_tables.specs.declared.flow_hour.FlowHour.{FlowHour}

-- an hour in a direction, of all pairs together
abbrev pub flow_of : Direction → Hour → FlowHour
flow_of direction hour = record { number = hour.number; shown = hour.shown; cycle = hour.cycle; amounts = amounts_in direction hour }

abbrev pub flows_of : Direction → List Hour → List FlowHour
flows_of direction hours = map (flow_of direction) hours

-- what waits for a cycle to be in force
abbrev pub waiting_if : Option ℕ → Option ℕ → Option ℕ
waiting_if None nominated = nominated
waiting_if (Some cycle) nominated = None

-- what is nominated, where it is not all in force
abbrev pub lost_of : Amounts → Option ℕ
lost_of amounts = if nat_lt amounts.in_force amounts.nominated then Some amounts.nominated else None

abbrev pub lost_if : Option ℕ → Amounts → Option ℕ
lost_if None amounts = None
lost_if (Some cycle) amounts = lost_of amounts

-- What a column shows: nominated and processed where there is a cycle of which they are shown, and all else where a
-- cycle is in force.
abbrev pub column_of : Column → FlowHour → Option ℕ
column_of Nominated hour = value_if hour.shown hour.amounts.nominated
column_of Processed hour = value_if hour.shown hour.amounts.processed
column_of Peers hour = value_if hour.cycle hour.amounts.peers
column_of InForce hour = value_if hour.cycle hour.amounts.in_force
column_of Cut hour = value_if hour.cycle (whole_cut hour.amounts)
column_of OwnCut hour = value_if hour.cycle (own_cut hour.amounts)
column_of PeerCut hour = value_if hour.cycle (peer_cut hour.amounts)
column_of Waiting hour = waiting_if hour.cycle (value_if hour.shown hour.amounts.nominated)
column_of Lost hour = lost_if hour.cycle hour.amounts

abbrev pub values_of : Column → List FlowHour → List (Option ℕ)
values_of column hours = map (column_of column) hours

abbrev pub sum_if_any : List (Option ℕ) → Option ℕ
sum_if_any values = if list_any is_some values then Some (total values) else None

-- the sum of what the column shows of the day, where it shows anything
abbrev pub sum_of : Column → List FlowHour → Option ℕ
sum_of column hours = sum_if_any (values_of column hours)

-- a number, and a dash where the column shows nothing
unfoldable pub hour_text : Column → FlowHour → List ℕ
hour_text column hour = cell (column_of column hour)

unfoldable pub sum_text : Column → List FlowHour → List ℕ
sum_text column hours = cell (sum_of column hours)
