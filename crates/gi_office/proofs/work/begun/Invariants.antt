use Rattle.std.proofs.Common.{◌≡◌, ◌≤◌, ◌+◌, ◌++◌, All, length, map, vec_capacity}
use Rattle.std.specs.Vec.Iter.{into_iter_items, into_iter_len}
use Rattle.gi_office.specs.Working.{AreRooms, IsReady, session_of}
use Rattle.gi_office.proofs.work.begun.Given as goal

abbrev pub invariant-loop-session : goal.invariant-loop-session
invariant-loop-session g l = record {
  rooms : AreRooms (into_iter_items l.session-iterator) (into_iter_items l.rooms);
  sessions : map session_of l.works.items ++ into_iter_items l.session-iterator ≡ l.fn.sessions.items;
  ready : All IsReady l.works.items;
  room : length l.works.items + length (into_iter_items l.session-iterator) ≤ vec_capacity l.works;
  left : into_iter_len l.session-iterator ≡ length (into_iter_items l.session-iterator);
  left_rooms : into_iter_len l.rooms ≡ length (into_iter_items l.rooms);
}
