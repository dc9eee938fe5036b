-- The cuts of rows: the largest first, each with its lines, and a foot for those that are not shown.
use Rattle.std.specs.Prelude.{ℕ, suc, ◌-◌, min, List, [], ◌∷◌, ◌++◌, codes, drop, length, nat_eq, nat_le, if◌then◌else◌}
use Rattle.std.specs.Fmt.{decimal}
use Rattle.std.specs.List.{sum_by}
use Rattle.std.specs.List.Sorted.{IsNonDecreasingBy, IsPermutation, IsStableByKey}
use Rattle.std.specs.Ordering.{nat_cmp}
use Rattle.gi_pairs.specs.Direction.{direction_text}
use Rattle.gi_pairs.specs.declared.direction.Direction.{Direction}
use Rattle.gi_pairs.specs.declared.key.Key.{Key}
use Rattle.gi_pairs.specs.declared.pair.Pair.{Pair}
use Rattle.gi_picture.specs.Numbers.{grouped}
use Rattle.gi_picture.specs.Values.{total}
use Rattle.gi_day_tables.specs.Columns.{sum_text, values_of}
use Rattle.gi_day_tables.specs.CutLines.{cut_runs, row_lines}
use Rattle.gi_day_tables.specs.Pairs.{codes_of}
use Rattle.gi_day_tables.specs.declared.column.Column.TheVariants.{Cut}
use Rattle.gi_day_tables.specs.declared.flow_hour.FlowHour.{FlowHour}
use Rattle.gi_day_tables.specs.declared.row_cut.RowCut.{RowCut}

-- the most that 64 bits hold
abbrev pub most_held : ℕ
most_held = 18_446_744_073_709_551_615

-- what a row is cut by over the day
abbrev pub whole_of : List FlowHour → ℕ
whole_of hours = min most_held (total (values_of Cut hours))

abbrev pub row_cut : ℕ → List FlowHour → RowCut
row_cut place hours = record { place = place; whole = whole_of hours; lines = length (cut_runs hours) }

-- a row that is not cut has no group
abbrev pub cut_rows : ℕ → List FlowHour → List RowCut
cut_rows place hours = if nat_eq (whole_of hours) 0 then [] else row_cut place hours ∷ []

-- what is left of the most: less where the cut is larger
abbrev pub smallness : RowCut → ℕ
smallness cut = most_held - cut.whole

-- the same cuts, the largest first, and equal ones in the order in which they were
pub record IsLargestFirst (cuts ordered : List RowCut) : Type 0 where
  pub same : IsPermutation cuts ordered
  pub largest_first : IsNonDecreasingBy smallness ordered
  pub stable : IsStableByKey smallness nat_cmp cuts ordered

-- of groups those that fit so many lines
unfoldable pub fitting : ℕ → List RowCut → ℕ
fitting room [] = 0
fitting room (cut ∷ cuts) = if nat_le cut.lines room then suc (fitting (room - cut.lines) cuts) else 0

-- how many groups are shown: while they have 100 lines at most, and the first always
unfoldable pub shown_groups : List RowCut → ℕ
shown_groups [] = 0
shown_groups (cut ∷ cuts) = suc (fitting (100 - cut.lines) cuts)

unfoldable pub group_cells : ℕ → Direction → List FlowHour → List ℕ
group_cells lines direction hours =
    codes "<td class=\"t\" rowspan=\"" ++ (decimal lines ++ (codes "\">" ++ (direction_text direction ++ (codes "</td><td class=\"cut\" rowspan=\"" ++ (decimal lines
    ++ (codes "\">" ++ (sum_text Cut hours ++ codes "</td>")))))))

unfoldable pub group_front : ℕ → List ℕ
group_front lines = codes "<tbody>\n<tr><th scope=\"rowgroup\" class=\"t\" rowspan=\"" ++ (decimal lines ++ codes "\">")

unfoldable pub group_rest : ℕ → Direction → List FlowHour → List ℕ
group_rest count direction hours = group_cells (length (cut_runs hours)) direction hours ++ (row_lines count (cut_runs hours) ++ codes "</tbody>\n")

unfoldable pub group_head : Pair → List FlowHour → List ℕ
group_head pair hours = group_front (length (cut_runs hours)) ++ codes_of pair

-- the group of a row: its codes, its direction, its whole cut, and its lines
unfoldable pub cut_group : ℕ → Key → List FlowHour → List ℕ
cut_group count key hours = group_head key.pair hours ++ group_rest count key.direction hours

abbrev pub rest_sum : List RowCut → ℕ
rest_sum cuts = sum_by (λ cut. cut.whole) cuts

unfoldable pub foot_of_rest : List RowCut → List ℕ
foot_of_rest rest =
    codes "<tfoot>\n<tr><th scope=\"row\" class=\"t\">" ++ (decimal (length rest) ++ (codes " more, in the table of pairs</th><td></td><td>" ++ (grouped (rest_sum rest)
    ++ codes "</td><td></td><td class=\"wide\"></td><td class=\"wide\"></td><td class=\"wide\"></td><td class=\"wide\"></td><td class=\"wide\"></td><td></td><td></td><td class=\"wide\"></td></tr>\n</tfoot>\n")))

unfoldable pub foot_if : List RowCut → List ℕ
foot_if [] = []
foot_if (cut ∷ cuts) = foot_of_rest (cut ∷ cuts)

-- the number and the sum of the groups that are not shown
abbrev pub cuts_foot : List RowCut → List ℕ
cuts_foot cuts = foot_if (drop (shown_groups cuts) cuts)

-- what stands before the groups of cuts
unfoldable pub cut_heads : List ℕ
cut_heads = codes "<section aria-labelledby=\"s-cuts\">\n<h2 id=\"s-cuts\">Cuts</h2>\n<div class=\"scroll\"><table class=\"codes\" style=\"--code:16ch\">\n<caption>The row that loses most over the day comes first. Hours one after the other with the same quantities and cycles are one line. By: own capacity, the peer, or both.</caption>\n<thead><tr><th scope=\"col\" class=\"t\">Initiating, matching</th><th scope=\"col\" class=\"t\"></th><th scope=\"col\">Cut, kWh</th><th scope=\"col\" class=\"t\">Hours</th><th scope=\"col\" class=\"t wide\">Local time</th><th scope=\"col\" class=\"wide\">Nominated</th><th scope=\"col\" class=\"wide\">Processed</th><th scope=\"col\" class=\"wide\">Peer&rsquo;s</th><th scope=\"col\" class=\"wide\">In force</th><th scope=\"col\">Cut, kWh/h</th><th scope=\"col\" class=\"t\">By</th><th scope=\"col\" class=\"t wide\">Cycle</th></tr></thead>\n"

-- what stands behind them and their foot
unfoldable pub cuts_end : List ℕ
cuts_end = codes "</table></div>\n</section>\n"

-- what stands in their place where no row is cut
unfoldable pub no_cuts : List ℕ
no_cuts = codes "<section aria-labelledby=\"s-cuts\">\n<h2 id=\"s-cuts\">Cuts</h2>\n<p>None: wherever a cycle is in force, all that is nominated is.</p>\n</section>\n"
