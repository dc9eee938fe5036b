-- Texts of several parts.
use Rattle.std.proofs.Common.{◌≡◌, ◌++◌, ℕ, List, codes, length}
use Rattle.std.specs.Fmt.{decimal}
use Rattle.gi_pairs.specs.declared.direction.Direction.TheVariants.{IM, MI}
use Rattle.gi_picture.specs.Numbers.{grouped}
use Rattle.gi_picture.specs.declared.hour.Hour.{Hour}
use Rattle.gi_day_tables.specs.ByHour.{hour_back}
use Rattle.gi_day_tables.specs.Cells.{cut_sum, hour_cells, planned_cells}
use Rattle.gi_day_tables.specs.Columns.{flow_of, hour_text, sum_text}
use Rattle.gi_day_tables.specs.CutLines.{before, behind, line_amounts, line_hours}
use Rattle.gi_day_tables.specs.Cuts.{foot_of_rest, rest_sum}
use Rattle.gi_day_tables.specs.Cycles.{fact_text, row_end}
use Rattle.gi_day_tables.specs.Net.{hour_net}
use Rattle.gi_day_tables.specs.Spans.{local_span, span}
use Rattle.gi_day_tables.specs.Totals.{total_cuts, total_sums}
use Rattle.gi_day_tables.specs.declared.column.Column.TheVariants.{Cut, InForce, OwnCut, PeerCut, Peers, Processed}
use Rattle.gi_day_tables.specs.declared.cycle_mark.CycleMark.{CycleMark}
use Rattle.gi_day_tables.specs.declared.flow_hour.FlowHour.{FlowHour}
use Rattle.gi_day_tables.specs.declared.flow_run.FlowRun.{FlowRun}
use Rattle.gi_day_tables.specs.declared.row_cut.RowCut.{RowCut}

pub total_sums_is : (hours : List FlowHour) (processed peers in_force : List ℕ) → processed ≡ sum_text Processed hours → peers ≡ sum_text Peers hours → in_force ≡ sum_text InForce hours
    → codes "<td class=\"wide\">" ++ (processed ++ (codes "</td><td class=\"wide\">" ++ (peers ++ (codes "</td><td class=\"strong\">" ++ (in_force ++ codes "</td>")))))
    ≡ total_sums hours
unfolding total_sums
total_sums_is hours processed peers in_force processed_is peers_is in_force_is = λ t.
    codes "<td class=\"wide\">" ++ (processed_is t ++ (codes "</td><td class=\"wide\">" ++ (peers_is t ++ (codes "</td><td class=\"strong\">" ++ (in_force_is t ++ codes "</td>")))))

pub total_cuts_is : (hours : List FlowHour) (cut own peer : List ℕ) → cut ≡ cut_sum hours → own ≡ sum_text OwnCut hours → peer ≡ sum_text PeerCut hours
    → cut ++ (codes "<td class=\"wide\">" ++ (own ++ (codes "</td><td class=\"wide\">" ++ (peer ++ codes "</td></tr>\n"))))
    ≡ total_cuts hours
unfolding total_cuts
total_cuts_is hours cut own peer cut_is own_is peer_is = λ t.
    cut_is t ++ (codes "<td class=\"wide\">" ++ (own_is t ++ (codes "</td><td class=\"wide\">" ++ (peer_is t ++ codes "</td></tr>\n"))))

pub row_end_is : (mark : CycleMark) (closed met : List ℕ) → closed ≡ fact_text mark.closed → met ≡ fact_text mark.met
    → codes "<td class=\"wide\">" ++ (closed ++ (codes "</td><td class=\"wide\">" ++ (met ++ codes "</td></tr>\n")))
    ≡ row_end mark
unfolding row_end
row_end_is mark closed met closed_is met_is = λ t.
    codes "<td class=\"wide\">" ++ (closed_is t ++ (codes "</td><td class=\"wide\">" ++ (met_is t ++ codes "</td></tr>\n")))

pub line_amounts_is : (hour : FlowHour) (planned in_force cut : List ℕ) → planned ≡ planned_cells hour → in_force ≡ hour_text InForce hour → cut ≡ hour_text Cut hour
    → planned ++ (codes "<td class=\"wide\">" ++ (in_force ++ (codes "</td><td class=\"cut\">" ++ (cut ++ codes "</td>"))))
    ≡ line_amounts hour
unfolding line_amounts
line_amounts_is hour planned in_force cut planned_is in_force_is cut_is = λ t.
    planned_is t ++ (codes "<td class=\"wide\">" ++ (in_force_is t ++ (codes "</td><td class=\"cut\">" ++ (cut_is t ++ codes "</td>"))))

pub hour_back_is : (hour : Hour) (im mi net : List ℕ) → im ≡ hour_cells (flow_of IM hour) → mi ≡ hour_cells (flow_of MI hour) → net ≡ hour_net hour
    → im ++ (mi ++ (codes "<td>" ++ (net ++ codes "</td></tr>\n")))
    ≡ hour_back hour
unfolding hour_back
hour_back_is hour im mi net im_is mi_is net_is = λ t.
    im_is t ++ (mi_is t ++ (codes "<td>" ++ (net_is t ++ codes "</td></tr>\n")))

pub foot_of_rest_is : (rest : List RowCut) (sum : List ℕ) → sum ≡ grouped (rest_sum rest)
    → codes "<tfoot>\n<tr><th scope=\"row\" class=\"t\">" ++ (decimal (length rest) ++ (codes " more, in the table of pairs</th><td></td><td>" ++ (sum ++ codes "</td><td></td><td class=\"wide\"></td><td class=\"wide\"></td><td class=\"wide\"></td><td class=\"wide\"></td><td class=\"wide\"></td><td></td><td></td><td class=\"wide\"></td></tr>\n</tfoot>\n")))
    ≡ foot_of_rest rest
unfolding foot_of_rest
foot_of_rest_is rest sum sum_is = λ t.
    codes "<tfoot>\n<tr><th scope=\"row\" class=\"t\">" ++ (decimal (length rest) ++ (codes " more, in the table of pairs</th><td></td><td>" ++ (sum_is t ++ codes "</td><td></td><td class=\"wide\"></td><td class=\"wide\"></td><td class=\"wide\"></td><td class=\"wide\"></td><td class=\"wide\"></td><td></td><td></td><td class=\"wide\"></td></tr>\n</tfoot>\n")))

pub line_hours_is : (count : ℕ) (run : FlowRun) (hours local : List ℕ) → hours ≡ span run.first.number (behind run) → local ≡ local_span count (before run) (behind run)
    → codes "<td class=\"t\">" ++ (hours ++ (codes "</td><td class=\"t wide\">" ++ (local ++ codes "</td>")))
    ≡ line_hours count run
unfolding line_hours
line_hours_is count run hours local hours_is local_is = λ t.
    codes "<td class=\"t\">" ++ (hours_is t ++ (codes "</td><td class=\"t wide\">" ++ (local_is t ++ codes "</td>")))
