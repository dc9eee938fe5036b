-- The lines of a row's cuts: a line for each run of hours that show the same.
use Rattle.std.specs.Prelude.{ℕ, ◌+◌, ◌-◌, min, List, [], ◌∷◌, ◌++◌, codes, nat_eq, if◌then◌else◌}
use Rattle.std.specs.List.{flat_map}
use Rattle.gi_picture.specs.Values.{value_or_none}
use Rattle.gi_picture.specs.declared.hour.Amounts.{Amounts}
use Rattle.gi_day_tables.specs.ByHour.{cycle_text}
use Rattle.gi_day_tables.specs.Cells.{planned_cells}
use Rattle.gi_day_tables.specs.Columns.{column_of, hour_text}
use Rattle.gi_day_tables.specs.FlowRuns.{flow_runs}
use Rattle.gi_day_tables.specs.Spans.{local_span, span}
use Rattle.gi_day_tables.specs.declared.column.Column.TheVariants.{Cut, InForce}
use Rattle.gi_day_tables.specs.declared.flow_hour.FlowHour.{FlowHour}
use Rattle.gi_day_tables.specs.declared.flow_run.FlowRun.{FlowRun}

abbrev pub cut_if : FlowRun → List FlowRun
cut_if run = if nat_eq (value_or_none (column_of Cut run.first)) 0 then [] else run ∷ []

-- the runs of hours of a row in which less is in force than is nominated
abbrev pub cut_runs : List FlowHour → List FlowRun
cut_runs hours = flat_map cut_if (flow_runs hours)

-- Who cut: this side's own capacity, where all that it processed is in force; the peer, where all that is nominated was
-- processed; else both.
abbrev pub cut_by : Amounts → List ℕ
cut_by amounts =
    if nat_eq amounts.processed amounts.in_force then codes "own" else if nat_eq amounts.processed amounts.nominated then codes "peer" else codes "both"

-- the bounds of hours before and behind a run
abbrev pub before : FlowRun → ℕ
before run = run.first.number - 1

abbrev pub behind : FlowRun → ℕ
behind run = min 255 (before run + run.hours)

-- the hours of a line, and their local time
unfoldable pub line_hours : ℕ → FlowRun → List ℕ
line_hours count run =
    codes "<td class=\"t\">" ++ (span run.first.number (behind run) ++ (codes "</td><td class=\"t wide\">" ++ (local_span count (before run) (behind run) ++ codes "</td>")))

-- the four quantities and the cut
unfoldable pub line_amounts : FlowHour → List ℕ
line_amounts hour =
    planned_cells hour ++ (codes "<td class=\"wide\">" ++ (hour_text InForce hour ++ (codes "</td><td class=\"cut\">" ++ (hour_text Cut hour ++ codes "</td>"))))

-- who cut, and the cycle in force
unfoldable pub line_end : FlowHour → List ℕ
line_end hour =
    codes "<td class=\"t\">" ++ (cut_by hour.amounts ++ (codes "</td><td class=\"t wide\">" ++ (cycle_text hour.cycle ++ codes "</td></tr>\n")))

unfoldable pub cut_line : ℕ → FlowRun → List ℕ
cut_line count run =
    line_hours count run ++ (line_amounts run.first ++ line_end run.first)

unfoldable pub next_line : ℕ → FlowRun → List ℕ
next_line count run =
    codes "<tr>" ++ cut_line count run

abbrev pub more_lines : ℕ → List FlowRun → List ℕ
more_lines count runs = flat_map (next_line count) runs

-- the lines of a row: the first of them goes on with what stands before it
unfoldable pub row_lines : ℕ → List FlowRun → List ℕ
row_lines count [] = codes "</tr>\n"
row_lines count (run ∷ runs) = cut_line count run ++ more_lines count runs
