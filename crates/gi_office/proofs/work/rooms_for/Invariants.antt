use Rattle.std.proofs.Common.{◌≡◌, ◌≤◌, ◌++◌, List, drop, length, Vec, vec_capacity}
use Rattle.gi_office.specs.Working.{AreRooms}
use Rattle.gi_office.specs.declared.receipt.Receipt.{Receipt}
use Rattle.gi_office.proofs.work.rooms_for.Given as goal

abbrev pub invariant-loop-session : goal.invariant-loop-session
invariant-loop-session g l = record {
  rooms : (more : List (Vec Receipt _)) → AreRooms (drop l.session-index l.sessions) more → AreRooms l.sessions (l.rooms.items ++ more);
  counted : length l.rooms.items ≡ l.session-index;
  room : length l.sessions ≤ vec_capacity l.rooms;
}
