-- The lines of a chart.
use Rattle.std.specs.Prelude.{ℕ, List, [], codes, map, Option, Some, None, option_map}
use Rattle.gi_pairs.specs.declared.direction.Direction.{Direction}
use Rattle.gi_picture.specs.Frame.{y}
use Rattle.gi_picture.specs.Quantities.{amounts_in}
use Rattle.gi_picture.specs.declared.frame.Frame.{Frame}
use Rattle.gi_picture.specs.declared.hour.Hour.{Hour}
use Rattle.gi_picture.specs.declared.level.Level.{Level}
use Rattle.gi_picture.specs.declared.line.Line.{Line}
use Rattle.gi_picture.specs.declared.line.Line.TheVariants.{Nominated, Processed, Peers, InForce, Upwards, Downwards, Net, Zero}

abbrev pub level_if : Option ℕ → ℕ → ℕ → Option Level
level_if None up down = None
level_if (Some cycle) up down = Some (record { up = up; down = down })

-- What is nominated and processed is shown of a closed cycle, all else of the cycle in force. The net is what is
-- in force of IM less what is in force of MI.
abbrev pub level_of : Line → Hour → Option Level
level_of (Nominated direction) hour = level_if hour.shown (amounts_in direction hour).nominated 0
level_of (Processed direction) hour = level_if hour.shown (amounts_in direction hour).processed 0
level_of (Peers direction) hour = level_if hour.cycle (amounts_in direction hour).peers 0
level_of (InForce direction) hour = level_if hour.cycle (amounts_in direction hour).in_force 0
level_of Upwards hour = level_if hour.cycle hour.im.in_force 0
level_of Downwards hour = level_if hour.cycle 0 hour.mi.in_force
level_of Net hour = level_if hour.cycle hour.im.in_force hour.mi.in_force
level_of Zero hour = level_if hour.cycle 0 0

-- where a line stands in an hour, from the top
abbrev pub place_of : Frame → Line → Hour → Option ℕ
place_of frame line hour = option_map (y frame) (level_of line hour)

abbrev pub places_of : Frame → Line → List Hour → List (Option ℕ)
places_of frame line hours = map (place_of frame line) hours

abbrev pub class_of : Line → List ℕ
class_of (Nominated direction) = codes "nominated"
class_of (Processed direction) = codes "processed"
class_of (Peers direction) = codes "peers"
class_of (InForce direction) = codes "edge"
class_of Upwards = codes "edge"
class_of Downwards = codes "edge"
class_of Net = codes "net"
class_of Zero = codes "zero"

abbrev pub word_of : Line → List ℕ
word_of (Nominated direction) = codes "nominated"
word_of (Processed direction) = codes "processed"
word_of (Peers direction) = codes "peer&rsquo;s<tspan class=\"wide\"> processed</tspan>"
word_of (InForce direction) = codes "<tspan class=\"strong\">in force</tspan>"
word_of Upwards = codes "IM<tspan class=\"wide\"> in force</tspan>"
word_of Downwards = codes "MI<tspan class=\"wide\"> in force</tspan>"
word_of Net = codes "<tspan class=\"strong\">net</tspan>"
word_of Zero = []
