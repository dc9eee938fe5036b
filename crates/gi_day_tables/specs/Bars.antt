-- The small bars of a row: what is in force before what is nominated.
use Rattle.std.specs.Prelude.{ℕ, ◌*◌, ◌-◌, ◌/◌, min, max, List, [], ◌∷◌, ◌++◌, codes, length, nat_eq, if◌then◌else◌, Option, Some, None}
use Rattle.std.specs.Fmt.{decimal}
use Rattle.std.specs.List.{flat_map}
use Rattle.gi_picture.specs.Runs.{runs}
use Rattle.gi_picture.specs.Values.{value_or_none}
use Rattle.gi_picture.specs.declared.run.Run.{Run}
use Rattle.gi_day_tables.specs.Columns.{values_of}
use Rattle.gi_day_tables.specs.declared.column.Column.{Column}
use Rattle.gi_day_tables.specs.declared.column.Column.TheVariants.{InForce, Lost, Nominated, Waiting}
use Rattle.gi_day_tables.specs.declared.flow_hour.FlowHour.{FlowHour}

-- the highest of those values that are there
abbrev pub highest : List (Option ℕ) → ℕ
highest [] = 0
highest (value ∷ values) = max (value_or_none value) (highest values)

-- 24 for the highest of a row, and 1 at least
abbrev pub height : ℕ → ℕ → ℕ
height most value = min 24 (max 1 (value * 24 / max most 1))

-- where the bar of a value ends: what is 0, and what is not there, lies on the ground
abbrev pub bar_top : ℕ → Option ℕ → ℕ
bar_top most None = 24
bar_top most (Some value) = if nat_eq value 0 then 24 else 24 - height most value

-- the bar of hours that show the same: 6 wide each
unfoldable pub edge : ℕ → Run → List ℕ
edge most run =
    codes "V" ++ (decimal (bar_top most run.value) ++ (codes "H" ++ decimal (run.behind * 6)))

abbrev pub edges : ℕ → List Run → List ℕ
edges most runs = flat_map (edge most) runs

unfoldable pub bar : List ℕ → ℕ → List (Option ℕ) → List ℕ
bar class most values = codes "<path class=\"" ++ (class ++ (codes "\" d=\"M0 24" ++ (edges most (runs values) ++ codes "V24z\"/>")))

-- no bar where all lies on the ground
abbrev pub bar_if : List ℕ → ℕ → List (Option ℕ) → List ℕ
bar_if class most values = if nat_eq (highest values) 0 then [] else bar class most values

abbrev pub column_bar : List ℕ → ℕ → Column → List FlowHour → List ℕ
column_bar class most column hours = bar_if class most (values_of column hours)

abbrev pub most_nominated : List FlowHour → ℕ
most_nominated hours = highest (values_of Nominated hours)

-- an outline where nothing is in force; else what is in force, over what is not
unfoldable pub bars_scaled : ℕ → List FlowHour → List ℕ
bars_scaled most hours =
    column_bar (codes "open") most Waiting hours ++ (column_bar (codes "lost") most Lost hours ++ column_bar (codes "bar") most InForce hours)

unfoldable pub frame_of_bars : ℕ → List ℕ
frame_of_bars count =
    codes "<svg class=\"in bars\" viewBox=\"0 0 " ++ (decimal (count * 6) ++ (codes " 25\" width=\"" ++ (decimal (count * 6) ++ codes "\" height=\"25\" preserveAspectRatio=\"none\" aria-hidden=\"true\">")))

-- the bars of a row, scaled by the highest that it nominates
unfoldable pub bars : List FlowHour → List ℕ
bars hours = frame_of_bars (length hours) ++ (bars_scaled (most_nominated hours) hours ++ codes "</svg>")
