-- What is not final: closed and not confirmed cycles, and the hours for which each would be in force.
use Rattle.std.specs.Prelude.{ℕ, ◌-◌, List, [], ◌∷◌, ◌++◌, codes, length, slice_get, Bool, true, false, ◌&&◌, nat_eq, nat_le, nat_lt, if◌then◌else◌, Option, Some, None}
use Rattle.std.specs.Fmt.{decimal}
use Rattle.std.specs.List.{flat_map}
use Rattle.gi_picture.specs.declared.hour.Hour.{Hour}
use Rattle.gi_page.specs.Header.{hours_words}
use Rattle.gi_day_tables.specs.declared.cycle_mark.CycleMark.{CycleMark}
use Rattle.gi_day_tables.specs.declared.cycle_mark.Standing.{Standing}
use Rattle.gi_day_tables.specs.declared.cycle_mark.Standing.TheVariants.{NotClosed, Frozen, Unsaved, Confirmed}

-- it is closed, and not confirmed
abbrev pub is_waiting : Standing → Bool
is_waiting NotClosed = false
is_waiting Frozen = true
is_waiting Unsaved = true
is_waiting Confirmed = false

abbrev pub is_below : Option ℕ → ℕ → Bool
is_below None cycle = true
is_below (Some other) cycle = nat_lt other cycle

-- The cycle covers the hour, and none or an earlier one is in force for it.
abbrev pub would_rule : CycleMark → Hour → Bool
would_rule mark hour = nat_le mark.first hour.number && is_below hour.cycle mark.cycle

abbrev pub number_if : CycleMark → Hour → List ℕ
number_if mark hour = if would_rule mark hour then hour.number ∷ [] else []

-- the hours for which it would be in force
abbrev pub waiting_hours : CycleMark → List Hour → List ℕ
waiting_hours mark hours = flat_map (number_if mark) hours

-- `cycle 28, hours 17–24`
abbrev pub wait_words : ℕ → Option ℕ → Option ℕ → List ℕ
wait_words cycle None last = []
wait_words cycle (Some first) None = []
wait_words cycle (Some first) (Some last) = codes "; <span>cycle " ++ (decimal cycle ++ (codes ", " ++ (hours_words first last ++ codes "</span>")))

-- from the first of these numbers to the last
unfoldable pub span_words : ℕ → List ℕ → List ℕ
span_words cycle numbers = wait_words cycle (slice_get numbers 0) (slice_get numbers (length numbers - 1))

unfoldable pub wait_if : List Hour → CycleMark → List ℕ
wait_if hours mark = if is_waiting mark.standing then span_words mark.cycle (waiting_hours mark hours) else []

abbrev pub waits : List Hour → List CycleMark → List ℕ
waits hours marks = flat_map (wait_if hours) marks

-- nothing is said where nothing waits
unfoldable pub note : List ℕ → List ℕ
note words = if nat_eq (length words) 0 then [] else (codes "<p class=\"note\"><b>Not final:</b> closed and not confirmed" ++ (words ++ codes ".</p>\n"))

unfoldable pub waiting_part : List Hour → List CycleMark → List ℕ
waiting_part hours marks = note (waits hours marks)
