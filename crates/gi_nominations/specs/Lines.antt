-- Which lines a nomination may have.
use Rattle.std.specs.Prelude.{ℕ, List, [], ◌∷◌, length, Bool, false, not, ◌&&◌, ◌||◌, ◌==◌, nat_eq, nat_lt, Option, Some, None, if◌then◌else◌}
use Rattle.std.specs.List.{list_all, list_any}
use Rattle.std.specs.Str.{bytes_eq}
use Rattle.gi_pairs.specs.Direction.{place_of}
use Rattle.gi_messages.specs.declared.nomination_line.NominationLine.{NominationLine}
use Rattle.gi_nominations.specs.declared.nomination_fault.NominationFault.{NominationFault}
use Rattle.gi_nominations.specs.declared.nomination_fault.NominationFault.TheVariants.{HourCount, TooManyLines, DuplicateLine}

-- how many lines a nomination has at most (this project's choice)
abbrev pub most_lines : ℕ
most_lines = 64

-- one quantity for each of so many hours
abbrev pub has_hours : ℕ → List NominationLine → Bool
has_hours hours = list_all (λ line. length line.hours == hours)

-- both lines are of one counterparty and direction, whatever their priorities
abbrev pub is_twin : NominationLine → NominationLine → Bool
is_twin line other = bytes_eq line.counterparty other.counterparty && nat_eq (place_of line.direction) (place_of other.direction)

abbrev pub has_twin : NominationLine → List NominationLine → Bool
has_twin line = list_any (is_twin line)

-- two of the lines are
abbrev pub has_twins : List NominationLine → Bool
has_twins [] = false
has_twins (line ∷ lines) = has_twin line lines || has_twins lines

-- the first fault of the lines of a gas day that has so many hours
unfoldable pub lines_fault : ℕ → List NominationLine → Option NominationFault
lines_fault hours lines =
    if not (has_hours hours lines) then Some HourCount
    else (if nat_lt most_lines (length lines) then Some TooManyLines
    else (if has_twins lines then Some DuplicateLine else None))
