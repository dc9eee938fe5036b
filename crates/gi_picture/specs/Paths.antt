-- The lines of a chart: steps over the runs of hours in which a line stands at one place.
use Rattle.std.specs.Prelude.{ℕ, List, [], ◌++◌, codes, Option, Some, None}
use Rattle.std.specs.Fmt.{decimal}
use Rattle.std.specs.List.{flat_map}
use Rattle.gi_picture.specs.Frame.{x}
use Rattle.gi_picture.specs.Lines.{class_of, places_of}
use Rattle.gi_picture.specs.Runs.{runs}
use Rattle.gi_picture.specs.declared.frame.Frame.{Frame}
use Rattle.gi_picture.specs.declared.hour.Hour.{Hour}
use Rattle.gi_picture.specs.declared.line.Line.{Line}
use Rattle.gi_picture.specs.declared.run.Run.{Run}

abbrev pub start_behind : Frame → Run → ℕ → Option ℕ → List ℕ
start_behind frame run place None = codes "M" ++ (decimal (x frame run.before) ++ (codes " " ++ decimal place))
start_behind frame run place (Some previous) = codes "V" ++ decimal place

-- from the step before, where there is one, to the step of the run
unfoldable pub step_start : Frame → Run → ℕ → List ℕ
step_start frame run place = start_behind frame run place run.previous

abbrev pub run_path : Frame → Run → Option ℕ → List ℕ
run_path frame run None = []
run_path frame run (Some place) = step_start frame run place ++ (codes "H" ++ decimal (x frame run.behind))

unfoldable pub run_line : Frame → Run → List ℕ
run_line frame run = run_path frame run run.value

abbrev pub runs_line : Frame → List Run → List ℕ
runs_line frame runs = flat_map (run_line frame) runs

-- steps through the places of the hours of a day, and a gap where there is none
unfoldable pub line_path : Frame → List (Option ℕ) → List ℕ
line_path frame places = runs_line frame (runs places)

-- a line of a day
unfoldable pub line_shape : Frame → Line → List Hour → List ℕ
line_shape frame line hours =
    codes "<path class=\"" ++ (class_of line ++ (codes "\" d=\"" ++ (line_path frame (places_of frame line hours) ++ codes "\"/>")))
