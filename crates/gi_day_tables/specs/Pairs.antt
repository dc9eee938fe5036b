-- The rows of pairs: the day's sums of each pair and direction.
use Rattle.std.specs.Prelude.{ℕ, List, ◌++◌, codes}
use Rattle.gi_pairs.specs.Direction.{direction_text}
use Rattle.gi_pairs.specs.declared.direction.Direction.{Direction}
use Rattle.gi_pairs.specs.declared.direction.Direction.TheVariants.{IM, MI}
use Rattle.gi_pairs.specs.declared.key.Key.{Key}
use Rattle.gi_pairs.specs.declared.pair.Pair.{Pair}
use Rattle.gi_picture.specs.Escape.{escaped}
use Rattle.gi_picture.specs.declared.hour.Hour.{Hour}
use Rattle.gi_day_tables.specs.Bars.{bars}
use Rattle.gi_day_tables.specs.ByHour.{day_sums}
use Rattle.gi_day_tables.specs.Cells.{day_cells}
use Rattle.gi_day_tables.specs.declared.flow_hour.FlowHour.{FlowHour}

-- what stands before the rows of pairs
unfoldable pub pair_heads : List ℕ
pair_heads = codes "<section aria-labelledby=\"s-pairs\">\n<h2 id=\"s-pairs\">Pairs</h2>\n<div class=\"scroll\"><table class=\"codes\" style=\"--code:16ch\">\n<caption>Totals of the day in kWh. Bars: in force, before what is nominated and not in force; a row&rsquo;s highest hour is as high as the row. Outlined: nominated, nothing in force.</caption>\n<thead><tr><th scope=\"col\" class=\"t\">Initiating, matching</th><th scope=\"col\" class=\"t\"></th><th scope=\"col\" class=\"t\">By hour</th><th scope=\"col\" class=\"wide\">Nominated</th><th scope=\"col\" class=\"wide\">Processed</th><th scope=\"col\" class=\"wide\">Peer&rsquo;s</th><th scope=\"col\">In force</th><th scope=\"col\">Cut</th></tr></thead>\n<tbody>\n"

unfoldable pub foot_row : Direction → List Hour → List ℕ
foot_row direction hours =
    codes "<tr><th scope=\"row\" class=\"t\">All of " ++ (direction_text direction ++ (codes "</th><td></td><td></td>" ++ (day_sums direction hours ++ codes "</tr>\n")))

-- the sums of each direction over all pairs
unfoldable pub pairs_foot : List Hour → List ℕ
pairs_foot hours = codes "</tbody>\n<tfoot>\n" ++ (foot_row IM hours ++ (foot_row MI hours ++ codes "</tfoot>\n</table></div>\n</section>\n"))

-- both codes of a pair, escaped
unfoldable pub codes_of : Pair → List ℕ
codes_of pair = codes "<b>" ++ (escaped pair.initiating ++ (codes "</b> <b>" ++ (escaped pair.matching ++ codes "</b></th>")))

unfoldable pub pair_cells : Direction → List FlowHour → List ℕ
pair_cells direction hours = codes "<td class=\"t\">" ++ (direction_text direction ++ (codes "</td><td class=\"t\">" ++ (bars hours ++ codes "</td>")))

unfoldable pub pair_sums : Direction → List FlowHour → List ℕ
pair_sums direction hours = pair_cells direction hours ++ (day_cells hours ++ codes "</tr>\n")

-- what begins a row
unfoldable pub row_start : List ℕ
row_start = codes "<tr><th scope=\"row\" class=\"t\">"

unfoldable pub pair_front : Pair → List ℕ
pair_front pair = row_start ++ codes_of pair

-- the row of a pair and direction
unfoldable pub pair_row : Key → List FlowHour → List ℕ
pair_row key hours = pair_front key.pair ++ pair_sums key.direction hours
