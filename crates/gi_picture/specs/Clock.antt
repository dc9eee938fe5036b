-- The local time at the bounds of hours. The clock changes, where it does, at the bound 20.
use Rattle.std.specs.Prelude.{◌≡◌, ◌≤◌, ℕ, ◌+◌, ◌%◌, List, [], ◌++◌, codes, nat_eq, nat_le, ◌&&◌, if◌then◌else◌}
use Rattle.gi_text.specs.Columns.{two_digits}

-- the clock hour at a bound of a day of so many hours: it begins at 06:00
unfoldable pub clock_hour : ℕ → ℕ → ℕ
clock_hour hours bound =
    if nat_eq hours 23 && nat_le 20 bound then (bound + 7) % 24 else if nat_eq hours 25 && nat_le 21 bound then (bound + 5) % 24 else (bound + 6) % 24

unfoldable pub clock_text : ℕ → ℕ → List ℕ
clock_text hours bound = two_digits (clock_hour hours bound) ++ codes ":00"

-- 02:00 comes twice where the clock goes back
unfoldable pub time_mark : ℕ → ℕ → List ℕ
time_mark hours bound =
    if nat_eq hours 25 && nat_eq bound 20 then codes " (1st)" else if nat_eq hours 25 && nat_eq bound 21 then codes " (2nd)" else []

-- A gas day ends at the time at which it begins, also where the clock changes.
abbrev pub EndsAsItBegins : Type 0
EndsAsItBegins = (hours : ℕ) → 23 ≤ hours → hours ≤ 25 → clock_hour hours hours ≡ clock_hour hours 0
