use Rattle.std.proofs.Common.{false, ◌≡◌, ◌≤◌, ◌+◌, ◌++◌, length, map, vec_capacity}
use Rattle.std.specs.Vec.Iter.{into_iter_items, into_iter_len}
use Rattle.gi_serving.specs.Submitting.{in_order, receipts_in, seat_in, short_of}
use Rattle.gi_serving.proofs.batch.all_apart.Given as goal

abbrev pub invariant-loop-one : goal.invariant-loop-one
invariant-loop-one g l = record {
  seats : l.seats.items ++ map seat_in (into_iter_items l.one-iterator) ≡ map seat_in l.fn.served.items;
  receipts : map in_order l.receipts.items ++ map receipts_in (into_iter_items l.one-iterator) ≡ map receipts_in l.fn.served.items;
  room : length l.seats.items + length (into_iter_items l.one-iterator) ≤ vec_capacity l.seats;
  receipts_room : length l.receipts.items + length (into_iter_items l.one-iterator) ≤ vec_capacity l.receipts;
  short : short_of l.wants (into_iter_items l.one-iterator) ≡ short_of false l.fn.served.items;
  left : into_iter_len l.one-iterator ≡ length (into_iter_items l.one-iterator);
}
