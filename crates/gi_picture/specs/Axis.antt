-- The axis of a chart: its grid and labels, and the three rows under it.
use Rattle.std.specs.Prelude.{◌≡◌, ℕ, zero, suc, ◌+◌, ◌*◌, ◌-◌, ◌/◌, ◌%◌, List, [], ◌++◌, codes, nat_eq, nat_le, if◌then◌else◌, Option, Some, None}
use Rattle.std.specs.Fmt.{decimal}
use Rattle.std.specs.List.{flat_map}
use Rattle.gi_picture.specs.Clock.{clock_hour, clock_text}
use Rattle.gi_picture.specs.Frame.{right, x}
use Rattle.gi_picture.specs.Numbers.{grouped}
use Rattle.gi_picture.specs.declared.frame.Frame.{Frame}
use Rattle.gi_picture.specs.declared.run.Run.{Run}

-- the largest of T, G, M and k whose size divides the step, so that each label is a whole number
unfoldable pub prefix_size : ℕ → ℕ
prefix_size step =
    if nat_eq (step % 1_000_000_000_000) 0 then 1_000_000_000_000 else if nat_eq (step % 1_000_000_000) 0 then 1_000_000_000
    else if nat_eq (step % 1_000_000) 0 then 1_000_000 else if nat_eq (step % 1_000) 0 then 1_000 else 1

unfoldable pub prefix : ℕ → List ℕ
prefix size =
    if nat_eq size 1_000_000_000_000 then codes "&nbsp;T" else if nat_eq size 1_000_000_000 then codes "&nbsp;G" else if nat_eq size 1_000_000 then codes "&nbsp;M"
    else if nat_eq size 1_000 then codes "&nbsp;k" else []

-- A prefix divides the step.
abbrev pub PrefixesDivide : Type 0
PrefixesDivide = (step : ℕ) → step / prefix_size step * prefix_size step ≡ step

-- `1,500 k` at the third tick of a step of 500,000
unfoldable pub tick_label : Frame → ℕ → List ℕ
tick_label frame n =
    if nat_eq n 0 then codes "0" else (grouped (n * (frame.step / prefix_size frame.step)) ++ prefix (prefix_size frame.step))

unfoldable pub grid_rule : Frame → ℕ → List ℕ → List ℕ
grid_rule frame place class = codes "<path class=\"" ++ (class ++ (codes "\" d=\"M84 " ++ (decimal place ++ (codes "H" ++ (decimal (right frame) ++ codes "\"/>")))))

unfoldable pub grid_name : ℕ → List ℕ → List ℕ
grid_name place label = codes "<text x=\"78\" y=\"" ++ (decimal (place + 4) ++ (codes "\">" ++ (label ++ codes "</text>\n")))

-- the zero line differs from the others
abbrev pub rule_class : ℕ → List ℕ
rule_class n = if nat_eq n 0 then codes "zero" else codes "grid"

-- a tick above the zero line, and one below it
unfoldable pub tick_above : Frame → ℕ → List ℕ
tick_above frame n = grid_rule frame (frame.zero - n * frame.tick) (rule_class n) ++ grid_name (frame.zero - n * frame.tick) (tick_label frame n)

unfoldable pub tick_below : Frame → ℕ → List ℕ
tick_below frame n = grid_rule frame (frame.zero + n * frame.tick) (codes "grid") ++ grid_name (frame.zero + n * frame.tick) (codes "&minus;" ++ tick_label frame n)

-- the first so many ticks, of which the first is the zero line
abbrev pub ticks_above : Frame → ℕ → List ℕ
ticks_above frame zero = []
ticks_above frame (suc n) = ticks_above frame n ++ tick_above frame n

-- the first so many ticks below it
abbrev pub ticks_below : Frame → ℕ → List ℕ
ticks_below frame zero = []
ticks_below frame (suc n) = ticks_below frame n ++ tick_below frame (suc n)

unfoldable pub row_names : Frame → List ℕ
row_names frame =
    codes "<text class=\"dim\" x=\"78\" y=\"13\">kWh/h</text><text class=\"dim\" x=\"52\" y=\"" ++ (decimal (frame.floor + 24)
    ++ (codes "\">hour</text><text class=\"dim\" x=\"52\" y=\"" ++ (decimal (frame.floor + 46)
    ++ (codes "\">local</text><text class=\"dim\" x=\"52\" y=\"" ++ (decimal (frame.floor + 69) ++ codes "\">cycle</text>\n")))))

-- on a narrow page each sixth hour is named
unfoldable pub wide_class : ℕ → List ℕ
wide_class n = if nat_eq (n % 6) 0 then [] else codes " class=\"wide\""

unfoldable pub hour_label : Frame → ℕ → List ℕ
hour_label frame bound =
    codes "<text x=\"" ++ (decimal (x frame bound + frame.column / 2) ++ (codes "\" y=\"" ++ (decimal (frame.floor + 24) ++ (codes "\"" ++ (wide_class bound ++ (codes ">"
    ++ (decimal (bound + 1) ++ codes "</text>")))))))

unfoldable pub time_rule : Frame → ℕ → List ℕ
time_rule frame bound = codes "<path class=\"zero\" d=\"M" ++ (decimal (x frame bound) ++ (codes " " ++ (decimal frame.floor ++ codes "v5\"/>")))

unfoldable pub time_name : Frame → ℕ → List ℕ
time_name frame bound =
    codes "<text x=\"" ++ (decimal (x frame bound) ++ (codes "\" y=\"" ++ (decimal (frame.floor + 46) ++ (codes "\"" ++ (wide_class (clock_hour frame.hours bound) ++ (codes ">"
    ++ (clock_text frame.hours bound ++ codes "</text>")))))))

abbrev pub time_label : Frame → ℕ → List ℕ
time_label frame bound = time_rule frame bound ++ time_name frame bound

-- the bounds whose clock hour is a multiple of three are named
unfoldable pub time_label_if : Frame → ℕ → List ℕ
time_label_if frame bound = if nat_eq (clock_hour frame.hours bound % 3) 0 then time_label frame bound else []

abbrev pub bound_labels : Frame → ℕ → List ℕ
bound_labels frame zero = []
bound_labels frame (suc n) = bound_labels frame n ++ (hour_label frame n ++ time_label_if frame n)

abbrev pub run_class : Option ℕ → List ℕ
run_class None = codes "none"
run_class (Some cycle) = codes "reign"

abbrev pub run_name : Option ℕ → List ℕ
run_name None = codes "&ndash;"
run_name (Some cycle) = decimal cycle

-- a bar under the hours of a cycle in force
unfoldable pub cycle_bar : Frame → Run → List ℕ
cycle_bar frame run =
    codes "<path class=\"" ++ (run_class run.value ++ (codes "\" d=\"M" ++ (decimal (x frame run.before + 1) ++ (codes " " ++ (decimal (frame.floor + 53) ++ (codes "H"
    ++ (decimal (x frame run.behind - 1) ++ codes "\"/>")))))))

-- on a narrow page a short run has no number
abbrev pub narrow_class : Frame → Run → List ℕ
narrow_class frame run = if nat_le (x frame run.before + 30) (x frame run.behind) then [] else codes " class=\"wide\""

-- its number
unfoldable pub cycle_name : Frame → Run → List ℕ
cycle_name frame run =
    codes "<text x=\"" ++ (decimal ((x frame run.before + x frame run.behind) / 2) ++ (codes "\" y=\"" ++ (decimal (frame.floor + 69) ++ (codes "\"" ++ (narrow_class frame run ++ (codes ">"
    ++ (run_name run.value ++ codes "</text>\n")))))))

unfoldable pub turn_path : Frame → Run → List ℕ
turn_path frame run = codes "<path class=\"turn\" d=\"M" ++ (decimal (x frame run.before) ++ (codes " 30V" ++ (decimal (frame.floor + 53) ++ codes "\"/>")))

-- a line up where another cycle begins to be in force
unfoldable pub turn : Frame → Run → List ℕ
turn frame run = if nat_eq run.before 0 then [] else turn_path frame run

abbrev pub cycle_mark : Frame → Run → List ℕ
cycle_mark frame run = turn frame run ++ (cycle_bar frame run ++ cycle_name frame run)

abbrev pub cycle_marks : Frame → List Run → List ℕ
cycle_marks frame runs = flat_map (cycle_mark frame) runs

-- the grid and the names of the rows
unfoldable pub grid : Frame → List ℕ
grid frame = codes "<g class=\"right\">" ++ (ticks_above frame (frame.above + 1) ++ (ticks_below frame frame.below ++ (row_names frame ++ codes "</g>\n")))

-- the hours, the local times, and the cycles in force
unfoldable pub rows : Frame → List Run → List ℕ
rows frame cycles = codes "<g class=\"middle\">" ++ (bound_labels frame frame.hours ++ (time_label_if frame frame.hours ++ (cycle_marks frame cycles ++ codes "</g>\n")))

unfoldable pub axis : Frame → List Run → List ℕ
axis frame cycles = grid frame ++ rows frame cycles
