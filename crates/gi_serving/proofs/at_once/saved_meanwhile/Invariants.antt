use Rattle.std.proofs.Common.{◌≡◌}
use Rattle.gi_serving.specs.Asking.{NotesMarks}
use Rattle.gi_serving.specs.Ending.{place_of}
use Rattle.gi_serving.specs.Faulting.{BothGoWell}
use Rattle.gi_pairs.specs.declared.side.Side.TheVariants.{I, M}
use Rattle.gi_serving.proofs.at_once.saved_meanwhile.Given as goal

abbrev pub invariant-loop-side : goal.invariant-loop-side
invariant-loop-side g l = record {
  place : place_of l.main ≡ place_of l.fn.main;
  peer_place : place_of l.peer_main ≡ place_of l.fn.peer_main;
  marks : NotesMarks l.fn.main l.main;
  peer_marks : NotesMarks l.fn.peer_main l.peer_main;
  well : BothGoWell (g.B.Turns.takes I) (g.C.Turns.takes M) l.initial.book l.initial.peer_book l.book l.peer_book;
}
