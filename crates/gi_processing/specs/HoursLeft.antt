-- What notices leave of the hours of a gas day and direction, in thousandths.
use Rattle.std.specs.Prelude.{◌≡◌, ℕ, ◌-◌, ◌≤◌, List, ◌&&◌, nat_le, if◌then◌else◌, Option, Some, None}
use Rattle.std.specs.List.{slice_index_or}
use Rattle.gi_processing.specs.CapacityLimits.{most_permille}
use Rattle.gi_processing.specs.declared.hours_left.Thousandths.{Thousandths}
use Rattle.gi_processing.specs.declared.notice.Notice.{Notice}

-- nothing is cut
abbrev pub whole : Thousandths
whole = record { firm = most_permille; interruptible = most_permille }

-- what is left in an hour, numbered from 1: all, where the row does not have it
abbrev pub left_at : List Thousandths → ℕ → Thousandths
left_at hours hour = if nat_le 1 hour then slice_index_or hours (hour - 1) whole else whole

-- what a notice leaves of each hour that it covers
abbrev pub left_by : Notice → Thousandths
left_by notice = record { firm = notice.firm; interruptible = notice.interruptible }

-- the notice's hours are cut by it, and all others stay
abbrev pub CutsHours : Notice → List Thousandths → List Thousandths → Type 0
CutsHours notice old new =
    (hour : ℕ) → left_at new hour ≡ (if nat_le notice.first hour && nat_le hour notice.last then left_by notice else left_at old hour)

-- no more than all is left
pub record IsLeft (left : Thousandths) : Type 0 where
  pub firm : left.firm ≤ most_permille
  pub interruptible : left.interruptible ≤ most_permille

-- so much is left by the notice, if there is one, and all where there is none
abbrev pub left_under : Option Notice → Thousandths
left_under None = whole
left_under (Some notice) = left_by notice
