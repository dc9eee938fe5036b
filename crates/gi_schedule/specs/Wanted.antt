-- What of a schedule is asked for.
use Rattle.std.specs.Prelude.{ℕ, List, Bool, true, ◌||◌, Option, Some, None}
use Rattle.std.specs.Str.{bytes_eq}
use Rattle.jiff_core.specs.declared.civil.date.Date.{Date}
use Rattle.gi_day.specs.SameDay.{same_day}
use Rattle.gi_pairs.specs.declared.pair.Pair.{Pair}

-- every gas day, or one
abbrev pub wants_day : Option Date → Date → Bool
wants_day None day = true
wants_day (Some wanted) day = same_day wanted day

-- every pair, or those in which a portfolio stands at either side
abbrev pub wants_pair : Option (List ℕ) → Pair → Bool
wants_pair None pair = true
wants_pair (Some portfolio) pair = bytes_eq pair.initiating portfolio || bytes_eq pair.matching portfolio
