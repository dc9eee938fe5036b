use Rattle.std.proofs.Common.{◌≡◌}
use Rattle.gi_serving.specs.Asking.{NotesMarks}
use Rattle.gi_serving.specs.Ending.{place_of}
use Rattle.gi_serving.specs.Faulting.{GoWell}
use Rattle.gi_serving.proofs.running.saved_all.Given as goal

abbrev pub invariant-loop : goal.invariant-loop
invariant-loop g l = record {
  place : place_of l.main ≡ place_of l.fn.seat;
  marks : NotesMarks l.fn.seat l.main;
  well : GoWell (g.B.Turns.takes g.R.Role.SIDE) l.initial.book l.book;
}
