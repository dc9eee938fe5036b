-- The chart of a direction.
use Rattle.std.specs.Prelude.{ℕ, ◌+◌, List, ◌++◌, codes, map, Option, Some, None}
use Rattle.std.specs.Fmt.{decimal}
use Rattle.gi_pairs.specs.Direction.{direction_text}
use Rattle.gi_pairs.specs.declared.direction.Direction.{Direction}
use Rattle.gi_picture.specs.Areas.{area_shape, blank_shape, blank_words}
use Rattle.gi_picture.specs.Axis.{axis}
use Rattle.gi_picture.specs.Heights.{direction_frame, first_with, highest_force}
use Rattle.gi_picture.specs.Names.{direction_names}
use Rattle.gi_picture.specs.Numbers.{grouped}
use Rattle.gi_picture.specs.Paths.{line_shape}
use Rattle.gi_picture.specs.Quantities.{in_force_of, nominated_of}
use Rattle.gi_picture.specs.Runs.{runs}
use Rattle.gi_picture.specs.Tips.{direction_tips}
use Rattle.gi_picture.specs.Values.{total}
use Rattle.gi_picture.specs.declared.frame.Frame.{Frame}
use Rattle.gi_picture.specs.declared.hour.Hour.{Hour}
use Rattle.gi_picture.specs.declared.line.Line.TheVariants.{Nominated, Processed, Peers, InForce, Zero}
use Rattle.gi_picture.specs.declared.run.Run.{Run}

-- the cycle in force of each hour
abbrev pub cycle_value : Hour → Option ℕ
cycle_value hour = hour.cycle

abbrev pub cycles_of : List Hour → List (Option ℕ)
cycles_of hours = map cycle_value hours

-- ---- what stands in words: a title and a description, each with a name of its own

unfoldable pub title : List ℕ → List ℕ → List ℕ
title id words = codes "<title id=\"t-" ++ (id ++ (codes "\">" ++ (words ++ (codes "</title>\n<desc id=\"d-" ++ (id ++ codes "\">")))))

unfoldable pub start : Frame → List ℕ → List ℕ
start frame id =
    codes "<svg class=\"chart\" viewBox=\"0 0 684 " ++ (decimal (frame.floor + 77) ++ (codes "\" role=\"img\" aria-labelledby=\"t-" ++ (id ++ (codes " d-" ++ (id ++ codes "\">\n")))))

unfoldable pub opening : Frame → List ℕ → List ℕ → List ℕ
opening frame id words = start frame id ++ title id words

-- the sum that is in force, the highest quantity, and where it stands first
unfoldable pub sum_words : Direction → List Hour → List ℕ
sum_words direction hours = codes "In force: " ++ (grouped (total (map (in_force_of direction) hours)) ++ codes " kWh over the day, ")

unfoldable pub most_words : Direction → List Hour → ℕ → List ℕ
most_words direction hours number = codes "at most " ++ (grouped (highest_force direction hours) ++ (codes " kWh/h, first in hour " ++ (decimal number ++ codes ". ")))

unfoldable pub peak : Direction → List Hour → ℕ → List ℕ
peak direction hours number = sum_words direction hours ++ most_words direction hours number

abbrev pub force_words_if : Direction → List Hour → Option ℕ → List ℕ
force_words_if direction hours None = codes "Nothing is confirmed. "
force_words_if direction hours (Some number) = peak direction hours number

unfoldable pub force_words : Direction → List Hour → List ℕ
force_words direction hours = force_words_if direction hours (first_with direction (highest_force direction hours) hours)

unfoldable pub nominated_words : Direction → List Hour → List ℕ
nominated_words direction hours = codes "Nominated: " ++ (grouped (total (map (nominated_of direction) hours)) ++ codes " kWh. The table by hour has every value.</desc>\n")

unfoldable pub description : Direction → List Hour → List ℕ
description direction hours = force_words direction hours ++ nominated_words direction hours

-- ---- what lies behind: the hours with nothing in force, what is in force, what the peer cuts, what own capacity cuts

unfoldable pub cut_areas : Frame → Direction → List Hour → List ℕ
cut_areas frame direction hours =
    area_shape frame (codes "bypeer") (Processed direction) (InForce direction) hours ++ (area_shape frame (codes "byown") (Nominated direction) (Processed direction) hours ++ codes "\n")

unfoldable pub ground : Frame → Direction → List Hour → List Run → List ℕ
ground frame direction hours cycles = blank_shape frame cycles ++ (area_shape frame (codes "force") (InForce direction) Zero hours ++ cut_areas frame direction hours)

unfoldable pub back : Frame → Direction → List Hour → List Run → List ℕ
back frame direction hours cycles =
    opening frame (direction_text direction) (direction_text direction ++ codes " by hour") ++ (description direction hours ++ (ground frame direction hours cycles ++ axis frame cycles))

-- ---- what lies in front: what is in force, then what is processed on it, what is nominated, and the peer's dots

unfoldable pub lines : Frame → Direction → List Hour → List ℕ
lines frame direction hours =
    line_shape frame (InForce direction) hours ++ (line_shape frame (Processed direction) hours ++ (line_shape frame (Nominated direction) hours ++ (line_shape frame (Peers direction) hours ++ codes "\n")))

unfoldable pub chart_end : List ℕ → List ℕ → List ℕ → List ℕ → List ℕ
chart_end lines words names tips =
    lines ++ (codes "<g class=\"middle\">" ++ (words ++ (codes "</g>\n" ++ (names ++ (codes "<g class=\"tips\">\n" ++ (tips ++ codes "</g>\n</svg>\n"))))))

unfoldable pub front : Frame → Direction → List Hour → List Run → List ℕ
front frame direction hours cycles =
    chart_end (lines frame direction hours) (blank_words frame cycles) (direction_names frame direction hours) (direction_tips frame direction hours)

unfoldable pub drawn : Frame → Direction → List Hour → List ℕ
drawn frame direction hours = back frame direction hours (runs (cycles_of hours)) ++ front frame direction hours (runs (cycles_of hours))

-- the chart of a direction, on an axis of its own
unfoldable pub chart : ℕ → Direction → List Hour → List ℕ
chart count direction hours = drawn (direction_frame count direction hours) direction hours
