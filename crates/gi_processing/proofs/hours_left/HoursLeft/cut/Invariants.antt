use Rattle.std.proofs.Common.{◌≡◌, ℕ, ◌&&◌, nat_le, nat_lt, if◌then◌else◌, length}
use Rattle.gi_processing.specs.HoursLeft.{left_at, left_by}
use Rattle.gi_processing.proofs.hours_left.HoursLeft.cut.Given as goal

abbrev pub invariant-loop-hour : goal.invariant-loop-hour
invariant-loop-hour l = record {
  cut : (hour : ℕ) → left_at l.hours hour ≡ (if nat_le l.notice.first hour && nat_lt hour l.hour then left_by l.notice else left_at l.initial.hours hour);
  length : length l.hours ≡ 25;
}
