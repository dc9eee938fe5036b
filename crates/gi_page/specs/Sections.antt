-- The parts of a page that are the same for all rows: the head, the charts, the cycles.
use Rattle.std.specs.Prelude.{ℕ, List, [], ◌++◌, codes, Bool, true, false, is_some, if◌then◌else◌}
use Rattle.std.specs.List.{list_any}
use Rattle.gi_pairs.specs.Direction.{direction_text}
use Rattle.gi_pairs.specs.declared.direction.Direction.{Direction}
use Rattle.gi_pairs.specs.declared.direction.Direction.TheVariants.{IM, MI}
use Rattle.gi_pairs.specs.declared.key.Key.{Key}
use Rattle.gi_pairs.specs.declared.side.Side.{Side}
use Rattle.gi_pairs.specs.declared.side.Side.TheVariants.{I, M}
use Rattle.gi_picture.specs.Chart.{chart}
use Rattle.gi_picture.specs.Key.{chart_defs, chart_key}
use Rattle.gi_picture.specs.Net.{net_chart}
use Rattle.gi_picture.specs.declared.hour.Hour.{Hour}
use Rattle.gi_day_tables.specs.Cycles.{cycles_section}
use Rattle.gi_day_tables.specs.Totals.{totals_section}
use Rattle.gi_day_tables.specs.declared.cycle_mark.CycleMark.{CycleMark}
use Rattle.gi_page.specs.Header.{day_words, heading_part, side_words, standing_part, style_part, title_part}
use Rattle.gi_page.specs.Style.{navigation}
use Rattle.gi_page.specs.Waiting.{waiting_part}
use Rattle.gi_page.specs.declared.subject.Subject.{Subject}

-- ---- the head

unfoldable pub front_part : Subject → List ℕ
front_part subject = title_part subject ++ (style_part subject ++ heading_part subject)

unfoldable pub subject_part : Subject → List ℕ
subject_part subject = side_words subject ++ day_words subject.count

unfoldable pub state_part : ℕ → List Hour → List CycleMark → List ℕ
state_part count hours marks = standing_part count hours ++ (waiting_part hours marks ++ codes "</header>\n<main>\n")

unfoldable pub head_part : Subject → List Hour → List CycleMark → List ℕ
head_part subject hours marks = subject_part subject ++ state_part subject.count hours marks

-- ---- the charts

abbrev pub route : Direction → List ℕ
route IM = codes "from the initiating to the matching operator"
route MI = codes "from the matching to the initiating operator"

-- gas in the direction leaves the side's network, or comes into it
abbrev pub way : Side → Direction → List ℕ
way I IM = codes "out of"
way I MI = codes "into"
way M IM = codes "into"
way M MI = codes "out of"

abbrev pub is_direction : Direction → Direction → Bool
is_direction IM IM = true
is_direction IM MI = false
is_direction MI IM = false
is_direction MI MI = true

abbrev pub has_direction : Direction → List Key → Bool
has_direction direction keys = list_any (λ key. is_direction direction key.direction) keys

unfoldable pub no_row : Direction → List ℕ
no_row direction = codes "<p>No pair has a row in " ++ (direction_text direction ++ codes ".</p>\n")

-- a sentence where no pair has a row in the direction
unfoldable pub chart_body : Bool → ℕ → Direction → List Hour → List ℕ
chart_body has count direction hours = if has then chart count direction hours else no_row direction

unfoldable pub chart_title : Side → Direction → List ℕ
chart_title side direction =
    codes "<section aria-labelledby=\"s-" ++ (direction_text direction ++ (codes "\">\n<h2 id=\"s-" ++ (direction_text direction ++ (codes "\">" ++ (direction_text direction
    ++ (codes " <span>" ++ (route direction ++ (codes ", " ++ (way side direction ++ codes " this network</span></h2>\n")))))))))

unfoldable pub chart_section : Side → Bool → ℕ → Direction → List Hour → List ℕ
chart_section side has count direction hours = chart_title side direction ++ (chart_body has count direction hours ++ codes "</section>\n")

unfoldable pub charts : Side → List Key → ℕ → List Hour → List ℕ
charts side keys count hours =
    codes "<div class=\"two\">\n" ++ (chart_section side (has_direction IM keys) count IM hours ++ (chart_section side (has_direction MI keys) count MI hours ++ codes "</div>\n"))

-- ---- the net flow and the cycles

abbrev pub has_cycle : Hour → Bool
has_cycle hour = is_some hour.cycle

unfoldable pub no_flow : List ℕ
no_flow = codes "<p>No cycle is confirmed, so there is no flow yet.</p>\n"

-- a sentence where no cycle is in force
unfoldable pub net_body : Bool → ℕ → List Hour → List ℕ
net_body has count hours = if has then net_chart count hours else no_flow

unfoldable pub net_section : ℕ → List Hour → List ℕ
net_section count hours =
    codes "<section aria-labelledby=\"s-net\">\n<h2 id=\"s-net\">Net flow <span>IM upwards, MI downwards, on one axis</span></h2>\n" ++ (net_body (list_any has_cycle hours) count hours ++ codes "</section>\n")

unfoldable pub flow_part : ℕ → List Hour → List CycleMark → List ℕ
flow_part count hours marks = codes "<div class=\"two\">\n" ++ (net_section count hours ++ (cycles_section marks hours ++ codes "</div>\n"))

-- ---- together

unfoldable pub chart_part : Side → List Key → ℕ → List Hour → List ℕ
chart_part side keys count hours = navigation ++ (chart_defs ++ (totals_section count hours ++ (charts side keys count hours ++ chart_key hours)))

unfoldable pub top_part : Side → List Key → ℕ → List Hour → List CycleMark → List ℕ
top_part side keys count hours marks = chart_part side keys count hours ++ flow_part count hours marks

-- where no pair has a row
unfoldable pub empty_part : List Hour → List CycleMark → List ℕ
empty_part hours marks = codes "<p>No pair has a row in this day.</p>\n" ++ cycles_section marks hours
