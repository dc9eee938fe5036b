-- The areas of a chart: boxes of an hour between two lines, and the ground of the hours in which no cycle is in force.
use Rattle.std.specs.Prelude.{ℕ, ◌+◌, ◌-◌, ◌/◌, List, [], ◌++◌, codes, nat_eq, nat_le, if◌then◌else◌, Option, Some, None}
use Rattle.std.specs.Fmt.{decimal}
use Rattle.std.specs.List.{flat_map}
use Rattle.gi_picture.specs.Frame.{x}
use Rattle.gi_picture.specs.Lines.{place_of}
use Rattle.gi_picture.specs.declared.frame.Frame.{Frame}
use Rattle.gi_picture.specs.declared.hour.Hour.{Hour}
use Rattle.gi_picture.specs.declared.line.Line.{Line}
use Rattle.gi_picture.specs.declared.run.Run.{Run}

-- a box of the hour that begins at this bound
unfoldable pub box_path : Frame → ℕ → ℕ → ℕ → List ℕ
box_path frame bound upper lower =
    codes "M" ++ (decimal (x frame bound) ++ (codes " " ++ (decimal lower ++ (codes "V" ++ (decimal upper ++ (codes "h" ++ (decimal frame.column ++ (codes "V" ++ (decimal lower ++ codes "z")))))))))

-- none where the two places are the same
unfoldable pub box_between : Frame → ℕ → Option ℕ → Option ℕ → List ℕ
box_between frame bound (Some upper) (Some lower) = if nat_eq upper lower then [] else box_path frame bound upper lower
box_between frame bound (Some upper) None = []
box_between frame bound None lower = []

abbrev pub box_if : Option ℕ → List ℕ → List ℕ
box_if None path = []
box_if (Some cycle) path = path

-- what stands in an hour between two lines, where a cycle is in force
unfoldable pub hour_box : Frame → Line → Line → Hour → List ℕ
hour_box frame upper lower hour = box_if hour.cycle (box_between frame (hour.number - 1) (place_of frame upper hour) (place_of frame lower hour))

abbrev pub area : Frame → Line → Line → List Hour → List ℕ
area frame upper lower hours = flat_map (hour_box frame upper lower) hours

unfoldable pub area_shape : Frame → List ℕ → Line → Line → List Hour → List ℕ
area_shape frame class upper lower hours = codes "<path class=\"" ++ (class ++ (codes "\" d=\"" ++ (area frame upper lower hours ++ codes "\"/>")))

abbrev pub blank_of : Frame → Run → Option ℕ → List ℕ
blank_of frame run (Some cycle) = []
blank_of frame run None =
    codes "M" ++ (decimal (x frame run.before) ++ (codes " 30H" ++ (decimal (x frame run.behind) ++ (codes "V" ++ (decimal frame.floor ++ (codes "H" ++ (decimal (x frame run.before) ++ codes "z")))))))

-- hours in which no cycle is in force
unfoldable pub blank : Frame → Run → List ℕ
blank frame run = blank_of frame run run.value

abbrev pub blanks : Frame → List Run → List ℕ
blanks frame cycles = flat_map (blank frame) cycles

unfoldable pub blank_shape : Frame → List Run → List ℕ
blank_shape frame cycles = codes "<path class=\"blank\" d=\"" ++ (blanks frame cycles ++ codes "\"/>")

-- the words have room on 180
unfoldable pub word_between : ℕ → ℕ → List ℕ
word_between from to =
    if nat_le (from + 180) to then (codes "<text class=\"dim over\" x=\"" ++ (decimal ((from + to) / 2) ++ codes "\" y=\"134\">nothing confirmed</text>")) else []

abbrev pub word_if : Option ℕ → List ℕ → List ℕ
word_if None word = word
word_if (Some cycle) word = []

unfoldable pub blank_word : Frame → Run → List ℕ
blank_word frame run = word_if run.value (word_between (x frame run.before) (x frame run.behind))

abbrev pub blank_words : Frame → List Run → List ℕ
blank_words frame cycles = flat_map (blank_word frame) cycles
