-- The table by hour.
use Rattle.std.specs.Prelude.{ℕ, ◌-◌, List, ◌++◌, codes, Option, Some, None}
use Rattle.std.specs.Fmt.{decimal}
use Rattle.std.specs.List.{flat_map}
use Rattle.gi_pairs.specs.declared.direction.Direction.{Direction}
use Rattle.gi_pairs.specs.declared.direction.Direction.TheVariants.{IM, MI}
use Rattle.gi_picture.specs.declared.hour.Hour.{Hour}
use Rattle.gi_day_tables.specs.Cells.{day_cells, hour_cells}
use Rattle.gi_day_tables.specs.Columns.{flow_of, flows_of}
use Rattle.gi_day_tables.specs.Net.{day_net, hour_net}
use Rattle.gi_day_tables.specs.Spans.{local_time}

-- what stands before the rows
unfoldable pub hour_heads : List ℕ
hour_heads = codes "<section aria-labelledby=\"s-hours\">\n<h2 id=\"s-hours\">By hour</h2>\n<div class=\"scroll\"><table>\n<caption>Sums over all pairs, in kWh/h; of the day in kWh. &ndash; where there is no such quantity.</caption>\n<thead><tr><th scope=\"col\" class=\"t\">Hour</th><th scope=\"col\" class=\"t\">Local</th><th scope=\"col\" class=\"wide\">Cycle</th><th scope=\"col\" class=\"wide\">IM<br>nominated</th><th scope=\"col\" class=\"wide\">IM<br>processed</th><th scope=\"col\" class=\"wide\">IM<br>peer&rsquo;s</th><th scope=\"col\">IM<br>in force</th><th scope=\"col\">IM<br>cut</th><th scope=\"col\" class=\"wide\">MI<br>nominated</th><th scope=\"col\" class=\"wide\">MI<br>processed</th><th scope=\"col\" class=\"wide\">MI<br>peer&rsquo;s</th><th scope=\"col\">MI<br>in force</th><th scope=\"col\">MI<br>cut</th><th scope=\"col\">Net</th></tr></thead>\n<tbody>\n"

unfoldable pub cycle_text : Option ℕ → List ℕ
cycle_text None = codes "&ndash;"
cycle_text (Some cycle) = decimal cycle

-- the hour, its local time, and the cycle in force
unfoldable pub hour_front : ℕ → Hour → List ℕ
hour_front count hour =
    codes "<tr><th scope=\"row\" class=\"t\">" ++ (decimal hour.number ++ (codes "</th><td class=\"t\">" ++ (local_time count (hour.number - 1) ++ (codes "</td><td class=\"wide\">" ++ (cycle_text hour.cycle ++ codes "</td>")))))

-- both directions and the net
unfoldable pub hour_back : Hour → List ℕ
hour_back hour =
    hour_cells (flow_of IM hour) ++ (hour_cells (flow_of MI hour) ++ (codes "<td>" ++ (hour_net hour ++ codes "</td></tr>\n")))

unfoldable pub hour_row : ℕ → Hour → List ℕ
hour_row count hour =
    hour_front count hour ++ hour_back hour

abbrev pub hour_rows : ℕ → List Hour → List ℕ
hour_rows count hours = flat_map (hour_row count) hours

unfoldable pub day_sums : Direction → List Hour → List ℕ
day_sums direction hours = day_cells (flows_of direction hours)

-- the sums of what the columns show
unfoldable pub hour_foot : List Hour → List ℕ
hour_foot hours =
    codes "</tbody>\n<tfoot>\n<tr><th scope=\"row\" class=\"t\">Day</th><td></td><td class=\"wide\"></td>" ++ (day_sums IM hours ++ (day_sums MI hours ++ (codes "<td>" ++ (day_net hours ++ codes "</td></tr>\n</tfoot>\n</table></div>\n</section>\n"))))

-- the table by hour of a day of so many hours
unfoldable pub hour_section : ℕ → List Hour → List ℕ
hour_section count hours =
    hour_heads ++ (hour_rows count hours ++ hour_foot hours)
