-- What stands before the parts of a page: its title, its style, and what it is of.
use Rattle.std.specs.Prelude.{ℕ, ◌+◌, ◌-◌, List, [], ◌∷◌, ◌++◌, codes, length, slice_get, Bool, true, ◌&&◌, nat_eq, nat_le, nat_lt, if◌then◌else◌, Option, Some, None}
use Rattle.std.specs.Fmt.{decimal}
use Rattle.std.specs.List.{flat_map}
use Rattle.gi_day.specs.Day.{day_text}
use Rattle.gi_pairs.specs.Side.{side_text}
use Rattle.gi_pairs.specs.declared.side.Side.{Side}
use Rattle.gi_pairs.specs.declared.side.Side.TheVariants.{I, M}
use Rattle.gi_picture.specs.Chart.{cycles_of}
use Rattle.gi_picture.specs.Escape.{escaped}
use Rattle.gi_picture.specs.Numbers.{grouped}
use Rattle.gi_picture.specs.Runs.{runs}
use Rattle.gi_picture.specs.declared.hour.Hour.{Hour}
use Rattle.gi_picture.specs.declared.run.Run.{Run}
use Rattle.gi_page.specs.Style.{head, style}
use Rattle.gi_page.specs.declared.subject.Subject.{Subject}

-- ---- the title, the style and the heading

-- ` I 2026-01-15`
unfoldable pub side_and_day : Subject → List ℕ
side_and_day subject = codes " " ++ (side_text subject.side ++ (codes " " ++ day_text subject.day))

unfoldable pub name : Subject → List ℕ
name subject = escaped subject.point ++ side_and_day subject

unfoldable pub title_part : Subject → List ℕ
title_part subject = head ++ (name subject ++ codes "</title>\n<style>\n")

-- the foot of each printed page
unfoldable pub foot_words : ℕ → List ℕ
foot_words facts = codes ", as of fact " ++ (grouped facts ++ codes "\"}}\n</style>\n</head>\n<body>\n<header>\n<h1>")

unfoldable pub foot_part : Subject → List ℕ
foot_part subject = name subject ++ foot_words subject.facts

unfoldable pub style_part : Subject → List ℕ
style_part subject = style ++ foot_part subject

unfoldable pub heading : Subject → List ℕ
heading subject = codes " <span>gas day</span> " ++ (day_text subject.day ++ codes "</h1>\n")

unfoldable pub heading_part : Subject → List ℕ
heading_part subject = escaped subject.point ++ heading subject

-- ---- the side and the day

abbrev pub operator : Side → List ℕ
operator I = codes "initiating"
operator M = codes "matching"

-- days on which the clock changes have 23 and 25 hours
unfoldable pub clock_change : ℕ → List ℕ
clock_change count =
    if nat_eq count 23 then codes " The clock goes forward: hour 20 begins at 01:00, and hour 21 at 03:00."
    else if nat_eq count 25 then codes " The clock goes back: hours 21 and 22 both begin at 02:00." else []

unfoldable pub side_words : Subject → List ℕ
side_words subject =
    codes "<p>Side " ++ (side_text subject.side ++ (codes ", the " ++ (operator subject.side ++ (codes " operator, as of fact " ++ (grouped subject.facts ++ codes ". ")))))

unfoldable pub day_words : ℕ → List ℕ
day_words count =
    decimal count ++ (codes " hours, from 06:00 to 06:00 of the next day, Central European local time." ++ (clock_change count ++ codes "</p>\n<p>"))

-- ---- what is in force

-- `hour 3` or `hours 3–8`
unfoldable pub hours_words : ℕ → ℕ → List ℕ
hours_words first last =
    if nat_eq first last then (codes "hour " ++ decimal first) else (codes "hours " ++ (decimal first ++ (codes "&ndash;" ++ decimal last)))

abbrev pub reign_words : Option ℕ → List ℕ
reign_words None = codes " not at all"
reign_words (Some cycle) = codes " by cycle " ++ decimal cycle

unfoldable pub reign_end : ℕ → ℕ → List ℕ
reign_end count behind = if nat_eq behind count then codes ".</span>" else codes ",</span> "

-- `hours 3–8 by cycle 14`
unfoldable pub reign : ℕ → Run → List ℕ
reign count run = codes "<span>" ++ (hours_words (run.before + 1) run.behind ++ (reign_words run.value ++ reign_end count run.behind))

abbrev pub reigns : ℕ → List Run → List ℕ
reigns count runs = flat_map (reign count) runs

-- the cycle in force for the last hour, which is the last of those in force
abbrev pub cycle_at : Option Hour → Option ℕ
cycle_at None = None
cycle_at (Some hour) = hour.cycle

unfoldable pub last_in_force : List Hour → Option ℕ
last_in_force hours = cycle_at (slice_get hours (length hours - 1))

abbrev pub standing_words : Option ℕ → List ℕ → List ℕ
standing_words None reigns = codes "<b>Nothing is in force:</b> no cycle of this day is confirmed.</p>\n"
standing_words (Some cycle) reigns = codes "<b>In force as of cycle " ++ (decimal cycle ++ (codes ":</b> " ++ (reigns ++ codes "</p>\n")))

unfoldable pub standing_part : ℕ → List Hour → List ℕ
standing_part count hours = standing_words (last_in_force hours) (reigns count (runs (cycles_of hours)))
