use Rattle.std.proofs.Common.{◌≡◌, ◌≤◌, ◌+◌, ◌++◌, length, map, vec_capacity}
use Rattle.std.specs.Vec.Iter.{into_iter_items, into_iter_len}
use Rattle.gi_office.specs.Working.{served_of}
use Rattle.gi_office.proofs.work.ended.Given as goal

abbrev pub invariant-loop-work : goal.invariant-loop-work
invariant-loop-work g l = record {
  served : l.served.items ++ map served_of (into_iter_items l.work-iterator) ≡ map served_of l.fn.works.items;
  room : length l.served.items + length (into_iter_items l.work-iterator) ≤ vec_capacity l.served;
  left : into_iter_len l.work-iterator ≡ length (into_iter_items l.work-iterator);
}
