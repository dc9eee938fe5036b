-- The chart of the net flow.
use Rattle.std.specs.Prelude.{ℕ, List, ◌++◌, codes, map, nat_lt, if◌then◌else◌}
use Rattle.gi_pairs.specs.declared.direction.Direction.TheVariants.{IM, MI}
use Rattle.gi_picture.specs.Areas.{area_shape, blank_shape, blank_words}
use Rattle.gi_picture.specs.Axis.{axis}
use Rattle.gi_picture.specs.Chart.{chart_end, cycles_of, opening}
use Rattle.gi_picture.specs.Heights.{net_frame}
use Rattle.gi_picture.specs.Names.{net_names}
use Rattle.gi_picture.specs.Numbers.{difference}
use Rattle.gi_picture.specs.Paths.{line_shape}
use Rattle.gi_picture.specs.Quantities.{in_force_of}
use Rattle.gi_picture.specs.Runs.{runs}
use Rattle.gi_picture.specs.Tips.{net_tips}
use Rattle.gi_picture.specs.Values.{total}
use Rattle.gi_picture.specs.declared.frame.Frame.{Frame}
use Rattle.gi_picture.specs.declared.hour.Hour.{Hour}
use Rattle.gi_picture.specs.declared.line.Line.TheVariants.{Upwards, Downwards, Net, Zero}
use Rattle.gi_picture.specs.declared.run.Run.{Run}

-- gas of IM goes to the matching operator
unfoldable pub towards : ℕ → ℕ → List ℕ
towards im mi = if nat_lt mi im then codes "towards the matching operator" else if nat_lt im mi then codes "towards the initiating operator" else codes "balanced"

unfoldable pub net_description : List Hour → List ℕ
net_description hours =
    codes "Net of the day " ++ (difference (total (map (in_force_of IM) hours)) (total (map (in_force_of MI) hours)) ++ (codes " kWh: "
    ++ (towards (total (map (in_force_of IM) hours)) (total (map (in_force_of MI) hours)) ++ codes ". The table by hour has every value.</desc>\n")))

abbrev pub net_title : List ℕ
net_title = codes "Flow in force, IM upwards, MI downwards, and the net of both, by hour"

unfoldable pub net_ground : Frame → List Hour → List Run → List ℕ
net_ground frame hours cycles =
    blank_shape frame cycles ++ (area_shape frame (codes "force") Upwards Zero hours ++ (area_shape frame (codes "force") Zero Downwards hours ++ codes "\n"))

unfoldable pub net_back : Frame → List Hour → List Run → List ℕ
net_back frame hours cycles = opening frame (codes "net") net_title ++ (net_description hours ++ (net_ground frame hours cycles ++ axis frame cycles))

unfoldable pub net_lines : Frame → List Hour → List ℕ
net_lines frame hours = line_shape frame Upwards hours ++ (line_shape frame Downwards hours ++ (line_shape frame Net hours ++ codes "\n"))

unfoldable pub net_front : Frame → List Hour → List Run → List ℕ
net_front frame hours cycles = chart_end (net_lines frame hours) (blank_words frame cycles) (net_names frame hours) (net_tips frame hours)

unfoldable pub net_drawn : Frame → List Hour → List ℕ
net_drawn frame hours = net_back frame hours (runs (cycles_of hours)) ++ net_front frame hours (runs (cycles_of hours))

-- what is in force of IM upwards, what is in force of MI downwards, and the first less the second
unfoldable pub net_chart : ℕ → List Hour → List ℕ
net_chart count hours = net_drawn (net_frame count hours) hours
