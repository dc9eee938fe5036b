-- The cells of an hour, and of a day.
use Rattle.std.specs.Prelude.{ℕ, List, ◌++◌, codes, Bool, true, false, nat_eq}
use Rattle.gi_picture.specs.Values.{value_or_none}
use Rattle.gi_day_tables.specs.Columns.{column_of, hour_text, sum_of, sum_text}
use Rattle.gi_day_tables.specs.declared.column.Column.TheVariants.{Cut, InForce, Nominated, Peers, Processed}
use Rattle.gi_day_tables.specs.declared.flow_hour.FlowHour.{FlowHour}

-- nominated, processed, and processed by the peer
unfoldable pub planned_cells : FlowHour → List ℕ
planned_cells hour =
    codes "<td class=\"wide\">" ++ (hour_text Nominated hour ++ (codes "</td><td class=\"wide\">" ++ (hour_text Processed hour ++ (codes "</td><td class=\"wide\">" ++ (hour_text Peers hour ++ codes "</td>")))))

-- what begins the cell of a cut: it is marked where something is cut
abbrev pub cut_start : Bool → List ℕ
cut_start true = codes "<td>"
cut_start false = codes "<td class=\"cut\">"

unfoldable pub cut_cell : FlowHour → List ℕ
cut_cell hour = cut_start (nat_eq (value_or_none (column_of Cut hour)) 0) ++ (hour_text Cut hour ++ codes "</td>")

abbrev pub sum_start : List FlowHour → List ℕ
sum_start hours = cut_start (nat_eq (value_or_none (sum_of Cut hours)) 0)

-- what is cut over the day
unfoldable pub cut_sum : List FlowHour → List ℕ
cut_sum hours = sum_start hours ++ (sum_text Cut hours ++ codes "</td>")

-- in force and cut
unfoldable pub held_cells : FlowHour → List ℕ
held_cells hour =
    codes "<td class=\"strong\">" ++ (hour_text InForce hour ++ (codes "</td>" ++ cut_cell hour))

-- the cells of an hour in a direction
unfoldable pub hour_cells : FlowHour → List ℕ
hour_cells hour =
    planned_cells hour ++ held_cells hour

-- the sums of the day
unfoldable pub planned_sums : List FlowHour → List ℕ
planned_sums hours =
    codes "<td class=\"wide\">" ++ (sum_text Nominated hours ++ (codes "</td><td class=\"wide\">" ++ (sum_text Processed hours ++ (codes "</td><td class=\"wide\">" ++ (sum_text Peers hours ++ codes "</td>")))))

unfoldable pub held_sums : List FlowHour → List ℕ
held_sums hours =
    codes "<td class=\"strong\">" ++ (sum_text InForce hours ++ (codes "</td>" ++ cut_sum hours))

-- the cells of a day in a direction
unfoldable pub day_cells : List FlowHour → List ℕ
day_cells hours =
    planned_sums hours ++ held_sums hours
