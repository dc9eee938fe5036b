use Rattle.std.proofs.Common.{◌≡◌, ◌≤◌, ◌+◌, ◌++◌, length, map, vec_capacity}
use Rattle.std.specs.Vec.Iter.{into_iter_items, into_iter_len}
use Rattle.gi_serving.specs.Submitting.{begun_by, bodies_in}
use Rattle.gi_serving.proofs.batch.begun.Given as goal

abbrev pub invariant-loop-seat : goal.invariant-loop-seat
invariant-loop-seat g l = record {
  sessions : l.sessions.items ++ begun_by (into_iter_items l.seat-iterator) (map bodies_in (into_iter_items l.dealt)) ≡ begun_by l.fn.seats.items (map bodies_in l.fn.dealt.items);
  room : length l.sessions.items + length (into_iter_items l.seat-iterator) ≤ vec_capacity l.sessions;
  left : into_iter_len l.seat-iterator ≡ length (into_iter_items l.seat-iterator);
  dealt : into_iter_len l.seat-iterator ≤ into_iter_len l.dealt;
}
