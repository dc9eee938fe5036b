use Rattle.std.proofs.Common.{◌∙◌, refl}
use Rattle.gi_pairs.specs.declared.side.Side.TheVariants.{I, M}
use Rattle.gi_serving.proofs.Faulting.{both_kept, turn_ends, turn_more}
use Rattle.gi_serving.proofs.Turning.{ended_at, marks_more, none_marked}
use Rattle.gi_serving.proofs.at_once.saved_meanwhile.Goals as goal

pub loop-side-init : goal.loop-side-init
loop-side-init g c = record {
  place = refl;
  peer_place = refl;
  marks = none_marked c.args.main;
  peer_marks = none_marked c.args.peer_main;
  well = both_kept (g.B.Turns.takes I) (g.C.Turns.takes M) c.args.book.now c.args.book.now c.args.peer_book.now c.args.peer_book.now refl refl;
}

pub loop-side-preserved : goal.loop-side-preserved
loop-side-preserved g c = record {
  place = c.turned_at-back.ensures.place ∙ c.loop-side.invariant.place;
  peer_place = c.turned_at-back.ensures.peer_place ∙ c.loop-side.invariant.peer_place;
  marks = marks_more c.args.main c.loop-side.main c.turned_at-back.result.0 c.loop-side.invariant.marks (rw c.in_default.is at c.turned_at-back.ensures.marks);
  peer_marks = marks_more c.args.peer_main c.loop-side.peer_main c.turned_at-back.result.1 c.loop-side.invariant.peer_marks (rw c.in_default.is at c.turned_at-back.ensures.peer_marks);
  well =
      turn_more c.in-Some.side (g.B.Turns.takes I) (g.C.Turns.takes M) c.args.book.now c.loop-side.book c.turned_at-back.new.book
      c.args.peer_book.now c.loop-side.peer_book c.turned_at-back.new.peer_book _
      c.loop-side.main c.turned_at-back.result.0 c.loop-side.peer_main c.turned_at-back.result.1
      c.loop-side.invariant.well c.turned_at-back.ensures.books
      (rw c.in_default.is at c.turned_at-back.ensures.turn) (rw c.in_default.is at c.turned_at-back.ensures.peer_turn);
}

pub returns-in-Err-clause-last : goal.returns-in-Err-clause-last
returns-in-Err-clause-last g c =
    ended_at c.in-Some.side c.turned_at-back.result.2 c.in-Err.fault (g.B.Turns.takes I) (g.C.Turns.takes M) c.loop-side.book c.turned_at-back.new.book c.loop-side.peer_book c.turned_at-back.new.peer_book
    c.loop-side.main c.turned_at-back.result.0 c.loop-side.peer_main c.turned_at-back.result.1 c.in-Err.is c.turned_at-back.ensures.turn c.turned_at-back.ensures.peer_turn

pub returns-in-Err-clause-ends : goal.returns-in-Err-clause-ends
returns-in-Err-clause-ends g c =
    turn_ends c.in-Some.side (g.B.Turns.takes I) (g.C.Turns.takes M) c.args.book.now c.loop-side.book c.turned_at-back.new.book
    c.args.peer_book.now c.loop-side.peer_book c.turned_at-back.new.peer_book c.in-Err.fault
    c.loop-side.main c.turned_at-back.result.0 c.loop-side.peer_main c.turned_at-back.result.1
    c.loop-side.invariant.well c.turned_at-back.ensures.books
    (rw c.in-Err.is at c.turned_at-back.ensures.turn) (rw c.in-Err.is at c.turned_at-back.ensures.peer_turn)
