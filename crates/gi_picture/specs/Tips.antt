-- The columns of a chart that tell the values of an hour under a pointer.
use Rattle.std.specs.Prelude.{ℕ, ◌-◌, List, [], ◌++◌, codes, Option, Some, None}
use Rattle.std.specs.Fmt.{decimal}
use Rattle.std.specs.List.{flat_map}
use Rattle.gi_pairs.specs.declared.direction.Direction.{Direction}
use Rattle.gi_picture.specs.Clock.{clock_text, time_mark}
use Rattle.gi_picture.specs.Frame.{x}
use Rattle.gi_picture.specs.Numbers.{cell, difference, grouped}
use Rattle.gi_picture.specs.Quantities.{in_force_of, nominated_of, peers_of, processed_of}
use Rattle.gi_picture.specs.declared.frame.Frame.{Frame}
use Rattle.gi_picture.specs.declared.hour.Hour.{Hour}

unfoldable pub tip_column : Frame → ℕ → List ℕ
tip_column frame bound =
    codes "<path d=\"M" ++ (decimal (x frame bound) ++ (codes " 30h" ++ (decimal frame.column ++ (codes "v" ++ (decimal (frame.floor - 30) ++ (codes "h-" ++ (decimal frame.column ++ codes "z\">")))))))

unfoldable pub cycle_words : Option ℕ → List ℕ
cycle_words None = codes "not confirmed"
cycle_words (Some cycle) = codes "cycle " ++ decimal cycle

-- the hour, its local time, and the cycle in force
unfoldable pub tip_words : ℕ → Hour → List ℕ
tip_words count hour =
    codes "<title>hour " ++ (decimal hour.number ++ (codes ", " ++ (clock_text count (hour.number - 1) ++ (time_mark count (hour.number - 1) ++ (codes ", " ++ (cycle_words hour.cycle ++ codes "\n"))))))

unfoldable pub tip_start : Frame → Hour → List ℕ
tip_start frame hour = tip_column frame (hour.number - 1) ++ tip_words frame.hours hour

unfoldable pub closed_values : Direction → Hour → List ℕ
closed_values direction hour = codes "nominated " ++ (cell (nominated_of direction hour) ++ (codes "\nprocessed " ++ (cell (processed_of direction hour) ++ codes "\n")))

unfoldable pub confirmed_values : Direction → Hour → List ℕ
confirmed_values direction hour = codes "peer&rsquo;s " ++ (cell (peers_of direction hour) ++ (codes "\nin force " ++ (cell (in_force_of direction hour) ++ codes "</title></path>\n")))

-- the four quantities of a direction in an hour
unfoldable pub direction_tip : Frame → Direction → Hour → List ℕ
direction_tip frame direction hour = tip_start frame hour ++ (closed_values direction hour ++ confirmed_values direction hour)

abbrev pub direction_tips : Frame → Direction → List Hour → List ℕ
direction_tips frame direction hours = flat_map (direction_tip frame direction) hours

unfoldable pub both_values : Hour → List ℕ
both_values hour = codes "IM " ++ (grouped hour.im.in_force ++ (codes "\nMI " ++ (grouped hour.mi.in_force ++ codes "\n")))

unfoldable pub net_values : Hour → List ℕ
net_values hour = both_values hour ++ (codes "net " ++ (difference hour.im.in_force hour.mi.in_force ++ codes "</title></path>\n"))

abbrev pub net_tip_of : Frame → Hour → Option ℕ → List ℕ
net_tip_of frame hour None = []
net_tip_of frame hour (Some cycle) = tip_start frame hour ++ net_values hour

-- what is in force in both directions, and the net, where a cycle is in force
unfoldable pub net_tip : Frame → Hour → List ℕ
net_tip frame hour = net_tip_of frame hour hour.cycle

abbrev pub net_tips : Frame → List Hour → List ℕ
net_tips frame hours = flat_map (net_tip frame) hours
