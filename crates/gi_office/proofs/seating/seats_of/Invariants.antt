use Rattle.std.proofs.Common.{◌≡◌, ◌+◌, ◌-◌, ◌≤◌, length, map, vec_capacity}
use Rattle.std.specs.List.{range_with_len}
use Rattle.gi_office.specs.Opening.{new_seat}
use Rattle.gi_office.proofs.seating.seats_of.Given as goal

abbrev pub invariant-loop-number : goal.invariant-loop-number
invariant-loop-number g l = record {
  parts : l.rest.parts + l.number ≡ 17;
  none : l.rest.amount ≡ 0;
  counted : length l.seats.items + 1 ≡ l.number;
  room : l.count ≤ vec_capacity l.seats;
  seats : l.seats.items ≡ map (new_seat 1) (range_with_len 1 (l.number - 1));
}
