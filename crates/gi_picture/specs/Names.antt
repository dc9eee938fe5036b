-- The names at the ends of the lines of a chart.
use Rattle.std.specs.Prelude.{◌≤◌, ℕ, ◌+◌, ◌*◌, ◌-◌, List, [], ◌∷◌, ◌++◌, codes, length, slice_get, max, min, nat_lt, if◌then◌else◌, Option, Some, None}
use Rattle.std.specs.Fmt.{decimal}
use Rattle.std.specs.List.{flat_map}
use Rattle.gi_pairs.specs.declared.direction.Direction.{Direction}
use Rattle.gi_picture.specs.Frame.{right, top}
use Rattle.gi_picture.specs.Lines.{class_of, place_of, word_of}
use Rattle.gi_picture.specs.Quantities.{amounts_in}
use Rattle.gi_picture.specs.declared.end.End.{End}
use Rattle.gi_picture.specs.declared.frame.Frame.{Frame}
use Rattle.gi_picture.specs.declared.hour.Amounts.{Amounts}
use Rattle.gi_picture.specs.declared.hour.Hour.{Hour}
use Rattle.gi_picture.specs.declared.line.Line.{Line}
use Rattle.gi_picture.specs.declared.line.Line.TheVariants.{Nominated, Processed, Peers, InForce, Upwards, Downwards, Net}

-- ---- the places of names: where the lines end; those too near are moved down, and what is then too far down, up again

abbrev pub wanted : ℕ → End → ℕ
wanted low end = max end.place low

-- where the name before these has to stand at most
abbrev pub limit : ℕ → ℕ → List End → ℕ
limit high low [] = high
limit high low (end ∷ ends) = min (wanted low end) (limit high (wanted low end + 19) ends) - 19

abbrev pub place_of_first : ℕ → ℕ → End → List End → ℕ
place_of_first high low end ends = min (wanted low end) (limit high (wanted low end + 19) ends)

abbrev pub places : ℕ → ℕ → List End → List ℕ
places high low [] = []
places high low (end ∷ ends) = place_of_first high low end ends ∷ places high (wanted low end + 19) ends

-- places from low on, 19 apart or more, of which the last is high at most
abbrev pub AreApart : ℕ → ℕ → List ℕ → Type 0
AreApart low high [] = low ≤ high + 19
AreApart low high (place ∷ places) = (low ≤ place) × AreApart (place + 19) high places

-- Names keep apart, and stay within the plot, where there is room for them.
abbrev pub NamesKeepApart : Type 0
NamesKeepApart = (low high : ℕ) (ends : List End) → low + 19 * length ends ≤ high + 19 → AreApart low high (places high low ends)

-- ---- a name: a thin line from the end to its place, a sample, the word

unfoldable pub lead : Frame → ℕ → ℕ → List ℕ
lead frame from place =
    codes "<path class=\"lead\" d=\"M" ++ (decimal (right frame + 2) ++ (codes " " ++ (decimal from ++ (codes "L" ++ (decimal (right frame + 12) ++ (codes " " ++ (decimal place ++ codes "\"/>")))))))

unfoldable pub sample : Frame → ℕ → List ℕ → List ℕ
sample frame place class =
    codes "<path class=\"" ++ (class ++ (codes "\" d=\"M" ++ (decimal (right frame + 14) ++ (codes " " ++ (decimal place ++ codes "h22\"/>")))))

unfoldable pub word_at : Frame → ℕ → List ℕ → List ℕ
word_at frame place text =
    codes "<text x=\"" ++ (decimal (right frame + 41) ++ (codes "\" y=\"" ++ (decimal (place + 4) ++ (codes "\">" ++ (text ++ codes "</text>\n")))))

unfoldable pub line_name : Frame → End → ℕ → List ℕ
line_name frame end place = lead frame end.place place ++ (sample frame place (class_of end.line) ++ word_at frame place (word_of end.line))

abbrev pub names_at : Frame → List End → List ℕ → List ℕ
names_at frame [] places = []
names_at frame (end ∷ ends) [] = []
names_at frame (end ∷ ends) (place ∷ places) = line_name frame end place ++ names_at frame ends places

abbrev pub names_in : Frame → ℕ → List End → List ℕ
names_in frame low ends = names_at frame ends (places (frame.floor - 4) low ends)

abbrev pub end_at : Line → Option ℕ → List End
end_at line None = []
end_at line (Some place) = record { line = line; place = place } ∷ []

-- the ends of those lines that have a level in an hour
abbrev pub ends : Frame → Hour → List Line → List End
ends frame hour lines = flat_map (λ line. end_at line (place_of frame line hour)) lines

-- the names of these lines behind an hour
unfoldable pub names_behind : Frame → Hour → List Line → List ℕ
names_behind frame hour lines = names_in frame (top + 4) (ends frame hour lines)

-- what is in force is never above what is processed, nor this above what is nominated; the peer's stands among these
abbrev pub order : Direction → Amounts → List Line
order direction amounts =
    if nat_lt amounts.nominated amounts.peers then Peers direction ∷ Nominated direction ∷ Processed direction ∷ InForce direction ∷ []
    else if nat_lt amounts.processed amounts.peers then Nominated direction ∷ Peers direction ∷ Processed direction ∷ InForce direction ∷ []
    else Nominated direction ∷ Processed direction ∷ Peers direction ∷ InForce direction ∷ []

abbrev pub names_of : Frame → Direction → Hour → List ℕ
names_of frame direction hour = names_behind frame hour (order direction (amounts_in direction hour))

abbrev pub direction_names_at : Frame → Direction → Option Hour → List ℕ
direction_names_at frame direction None = []
direction_names_at frame direction (Some hour) = names_of frame direction hour

-- behind the last hour of the day
unfoldable pub direction_names : Frame → Direction → List Hour → List ℕ
direction_names frame direction hours = direction_names_at frame direction (slice_get hours (length hours - 1))

abbrev pub net_names_at : Frame → Option Hour → List ℕ
net_names_at frame None = []
net_names_at frame (Some hour) = names_behind frame hour (Upwards ∷ Net ∷ Downwards ∷ [])

unfoldable pub net_names : Frame → List Hour → List ℕ
net_names frame hours = net_names_at frame (slice_get hours (length hours - 1))
