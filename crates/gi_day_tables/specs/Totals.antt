-- The totals of the day: each direction, and the net.
use Rattle.std.specs.Prelude.{ℕ, ◌+◌, min, List, [], ◌++◌, codes, Option, Some, None}
use Rattle.std.specs.Fmt.{decimal}
use Rattle.std.specs.List.{flat_map, sum_by}
use Rattle.gi_pairs.specs.Direction.{direction_text}
use Rattle.gi_pairs.specs.declared.direction.Direction.{Direction}
use Rattle.gi_pairs.specs.declared.direction.Direction.TheVariants.{IM, MI}
use Rattle.gi_picture.specs.Chart.{cycles_of}
use Rattle.gi_picture.specs.Runs.{runs}
use Rattle.gi_picture.specs.declared.hour.Hour.{Hour}
use Rattle.gi_picture.specs.declared.run.Run.{Run}
use Rattle.gi_day_tables.specs.Cells.{cut_sum}
use Rattle.gi_day_tables.specs.Columns.{flows_of, sum_text}
use Rattle.gi_day_tables.specs.Net.{day_net}
use Rattle.gi_day_tables.specs.Spans.{span}
use Rattle.gi_day_tables.specs.declared.column.Column.TheVariants.{InForce, Nominated, OwnCut, PeerCut, Peers, Processed}
use Rattle.gi_day_tables.specs.declared.flow_hour.FlowHour.{FlowHour}

abbrev pub one_if : Option ℕ → ℕ
one_if None = 0
one_if (Some cycle) = 1

-- how many hours have a cycle in force
unfoldable pub hours_in_force : List FlowHour → ℕ
hours_in_force hours = sum_by (λ hour. one_if hour.cycle) hours

unfoldable pub total_front : Direction → List FlowHour → List ℕ
total_front direction hours =
    codes "<tr><th scope=\"row\" class=\"t\">" ++ (direction_text direction ++ (codes "</th><td>" ++ (decimal (hours_in_force hours) ++ (codes "</td><td>" ++ (sum_text Nominated hours ++ codes "</td>")))))

unfoldable pub total_sums : List FlowHour → List ℕ
total_sums hours =
    codes "<td class=\"wide\">" ++ (sum_text Processed hours ++ (codes "</td><td class=\"wide\">" ++ (sum_text Peers hours ++ (codes "</td><td class=\"strong\">" ++ (sum_text InForce hours ++ codes "</td>")))))

unfoldable pub total_cuts : List FlowHour → List ℕ
total_cuts hours =
    cut_sum hours ++ (codes "<td class=\"wide\">" ++ (sum_text OwnCut hours ++ (codes "</td><td class=\"wide\">" ++ (sum_text PeerCut hours ++ codes "</td></tr>\n"))))

-- the totals of a direction
unfoldable pub total_cells : Direction → List FlowHour → List ℕ
total_cells direction hours =
    total_front direction hours ++ (total_sums hours ++ total_cuts hours)

unfoldable pub total_row : Direction → List Hour → List ℕ
total_row direction hours = total_cells direction (flows_of direction hours)

-- of what is in force, that in the one direction less that in the other
unfoldable pub net_row : List Hour → List ℕ
net_row hours =
    codes "</tbody>\n<tfoot>\n<tr><th scope=\"row\" class=\"t\">Net, IM &minus; MI</th><td></td><td></td><td class=\"wide\"></td><td class=\"wide\"></td><td class=\"strong\">" ++ (day_net hours ++ codes "</td><td></td><td class=\"wide\"></td><td class=\"wide\"></td></tr>\n</tfoot>\n</table></div>\n")

abbrev pub note_if : Option ℕ → ℕ → ℕ → List ℕ
note_if (Some cycle) first last = []
note_if None first last = codes "; hours without a cycle in force: " ++ (span first last ++ codes ", which add at most to nominated and processed")

-- which hours have no cycle in force
unfoldable pub waiting_note : Run → List ℕ
waiting_note run = note_if run.value (min 255 (run.before + 1)) run.behind

abbrev pub waiting_notes : List Run → List ℕ
waiting_notes runs = flat_map waiting_note runs

unfoldable pub day_notes : List Hour → List ℕ
day_notes hours = waiting_notes (runs (cycles_of hours))

-- the heads of the columns
unfoldable pub totals_head : List ℕ
totals_head = codes "</caption>\n<thead><tr><th scope=\"col\" class=\"t\">kWh</th><th scope=\"col\">Hours in force</th><th scope=\"col\">Nominated</th><th scope=\"col\" class=\"wide\">Processed</th><th scope=\"col\" class=\"wide\">Peer&rsquo;s processed</th><th scope=\"col\">In force</th><th scope=\"col\">Cut</th><th scope=\"col\" class=\"wide\">by own capacity</th><th scope=\"col\" class=\"wide\">by the peer</th></tr></thead>\n<tbody>\n"

unfoldable pub totals_top : ℕ → List Hour → List ℕ
totals_top count hours =
    codes "<div class=\"scroll\"><table>\n<caption>Totals of the day&rsquo;s " ++ (decimal count ++ (codes " hours over all pairs" ++ (day_notes hours ++ totals_head)))

-- both directions and the net
unfoldable pub totals_rows : List Hour → List ℕ
totals_rows hours =
    total_row IM hours ++ (total_row MI hours ++ net_row hours)

-- the table of totals of a day of so many hours
unfoldable pub totals_section : ℕ → List Hour → List ℕ
totals_section count hours =
    totals_top count hours ++ totals_rows hours
