-- The cycles of the day: a strip of all, and a table of those in force or waiting.
use Rattle.std.specs.Prelude.{ℕ, ◌+◌, ◌/◌, ◌%◌, min, List, [], ◌++◌, codes, Bool, true, false, nat_eq, if◌then◌else◌, Option, Some, None}
use Rattle.std.specs.Fmt.{decimal}
use Rattle.std.specs.List.{flat_map, list_any}
use Rattle.gi_text.specs.Columns.{two_digits}
use Rattle.gi_picture.specs.Chart.{cycles_of}
use Rattle.gi_picture.specs.Numbers.{grouped}
use Rattle.gi_picture.specs.Runs.{runs}
use Rattle.gi_picture.specs.declared.hour.Hour.{Hour}
use Rattle.gi_picture.specs.declared.run.Run.{Run}
use Rattle.gi_day_tables.specs.Spans.{span}
use Rattle.gi_day_tables.specs.declared.cycle_mark.CycleMark.{CycleMark}
use Rattle.gi_day_tables.specs.declared.cycle_mark.Standing.{Standing}
use Rattle.gi_day_tables.specs.declared.cycle_mark.Standing.TheVariants.{Confirmed, Frozen, NotClosed, Unsaved}

-- a box has a class by its standing
abbrev pub box_start : Standing → List ℕ
box_start NotClosed = codes "<li><b>"
box_start Frozen = codes "<li class=\"frozen\" title=\"frozen\"><b>"
box_start Unsaved = codes "<li class=\"unsaved\" title=\"unsaved\"><b>"
box_start Confirmed = codes "<li class=\"confirmed\" title=\"confirmed\"><b>"

abbrev pub standing_text : Standing → List ℕ
standing_text NotClosed = codes "not closed"
standing_text Frozen = codes "frozen"
standing_text Unsaved = codes "unsaved"
standing_text Confirmed = codes "confirmed"

-- the number of a cycle, and the first hour that it covers
unfoldable pub cycle_box : CycleMark → List ℕ
cycle_box mark =
    box_start mark.standing ++ (decimal mark.cycle ++ (codes "</b>" ++ (decimal mark.first ++ codes "</li>")))

abbrev pub strip : List CycleMark → List ℕ
strip marks = flat_map cycle_box marks

-- a run of hours in which the cycle is in force
abbrev pub is_number : ℕ → Option ℕ → Bool
is_number cycle None = false
is_number cycle (Some value) = nat_eq value cycle

abbrev pub stands_for : ℕ → Run → Bool
stands_for cycle run = is_number cycle run.value

abbrev pub is_in_force : ℕ → List Run → Bool
is_in_force cycle runs = list_any (stands_for cycle) runs

-- the cycles of the table: those that are closed and not confirmed, and those in force
abbrev pub listed_if : Standing → Bool → Bool
listed_if NotClosed in_force = false
listed_if Frozen in_force = true
listed_if Unsaved in_force = true
listed_if Confirmed in_force = in_force

abbrev pub is_listed : CycleMark → List Run → Bool
is_listed mark runs = listed_if mark.standing (is_in_force mark.cycle runs)

-- the hours in which a cycle is in force
unfoldable pub span_if : ℕ → Run → List ℕ
span_if cycle run = if stands_for cycle run then (codes "<span>" ++ (span (min 255 (run.before + 1)) run.behind ++ codes "</span> ")) else []

abbrev pub spans : ℕ → List Run → List ℕ
spans cycle runs = flat_map (span_if cycle) runs

unfoldable pub fact_text : Option ℕ → List ℕ
fact_text None = codes "&ndash;"
fact_text (Some fact) = grouped fact

-- what stands between the strip and the rows
unfoldable pub cycle_heads : List ℕ
cycle_heads = codes "</ol>\n<p class=\"dim\">In each box the cycle, and below it the first hour that it covers. <span><i class=\"confirmed\"></i> confirmed</span>, <span><i class=\"unsaved\"></i> met and unsaved</span>, <span><i class=\"frozen\"></i> frozen and not met</span>, else not closed.</p>\n<div class=\"scroll\"><table>\n<caption>Cycles in force, and those that are closed and not confirmed. Each covers the hours from its first to the end of the day.</caption>\n<thead><tr><th scope=\"col\" class=\"t\">Cycle</th><th scope=\"col\" class=\"t\">Starts, UTC</th><th scope=\"col\" class=\"t\">First hour</th><th scope=\"col\" class=\"t\">Standing</th><th scope=\"col\" class=\"t\">In force for</th><th scope=\"col\" class=\"wide\">Closed by fact</th><th scope=\"col\" class=\"wide\">Met by fact</th></tr></thead>\n<tbody>\n"

-- the cycle, the hour at UTC at which it starts, and the first hour that it covers
unfoldable pub row_front : CycleMark → List ℕ
row_front mark =
    codes "<tr><th scope=\"row\" class=\"t\">" ++ (decimal mark.cycle ++ (codes "</th><td class=\"t\">" ++ (two_digits (mark.start / 3600 % 24) ++ (codes ":00</td><td class=\"t\">" ++ (decimal mark.first ++ codes "</td>")))))

-- how far it is, and the hours in which it is in force
unfoldable pub row_middle : CycleMark → List Run → List ℕ
row_middle mark runs =
    codes "<td class=\"t\">" ++ (standing_text mark.standing ++ (codes "</td><td class=\"t strong\">" ++ (spans mark.cycle runs ++ codes "</td>")))

-- the facts that closed it and that met the peer's table
unfoldable pub row_end : CycleMark → List ℕ
row_end mark =
    codes "<td class=\"wide\">" ++ (fact_text mark.closed ++ (codes "</td><td class=\"wide\">" ++ (fact_text mark.met ++ codes "</td></tr>\n")))

unfoldable pub cycle_row : CycleMark → List Run → List ℕ
cycle_row mark runs =
    row_front mark ++ (row_middle mark runs ++ row_end mark)

abbrev pub cycle_row_if : CycleMark → List Run → List ℕ
cycle_row_if mark runs = if is_listed mark runs then cycle_row mark runs else []

abbrev pub cycle_rows : List CycleMark → List Run → List ℕ
cycle_rows marks runs = flat_map (λ mark. cycle_row_if mark runs) marks

unfoldable pub listed_rows : List CycleMark → List Hour → List ℕ
listed_rows marks hours = cycle_rows marks (runs (cycles_of hours))

-- the strip of all cycles, and the table of those in force or waiting
unfoldable pub cycles_section : List CycleMark → List Hour → List ℕ
cycles_section marks hours =
    codes "<section aria-labelledby=\"s-cycles\">\n<h2 id=\"s-cycles\">Cycles</h2>\n<ol class=\"strip\">\n" ++ (strip marks ++ (cycle_heads ++ (listed_rows marks hours ++ codes "</tbody>\n</table></div>\n</section>\n")))
