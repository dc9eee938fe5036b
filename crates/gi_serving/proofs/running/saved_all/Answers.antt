use Rattle.std.proofs.Common.{◌∙◌, false, refl, true}
use Rattle.gi_serving.proofs.Faulting.{ended_by, none_made, one_more}
use Rattle.gi_serving.proofs.Noting.{noted_more}
use Rattle.gi_serving.proofs.Turning.{marks_more, none_marked}
use Rattle.gi_serving.proofs.running.saved_all.Goals as goal

pub loop-init : goal.loop-init
loop-init g c = record {
  place = refl;
  marks = none_marked c.args.seat;
  well = none_made (g.B.Turns.takes g.R.Role.SIDE) c.args.book.now;
}

pub loop-preserved : goal.loop-preserved
loop-preserved g c = record {
  place = c.turned-back.ensures.place ∙ c.loop.invariant.place;
  marks = marks_more c.args.seat c.loop.main c.turned-back.result.0 c.loop.invariant.marks (rw c.in-Ok-true.is at c.turned-back.ensures.marks);
  well =
      one_more (g.B.Turns.takes g.R.Role.SIDE) c.args.book.now c.loop.book c.turned-back.new.self true c.loop.main c.turned-back.result.0
      c.loop.invariant.well (rw (c.in-Ok-true.is, c.in-Ok-true.field-0-test) at c.turned-back.ensures.turn);
}

pub returns-in-Ok-false-clause-marks : goal.returns-in-Ok-false-clause-marks
returns-in-Ok-false-clause-marks g c =
    marks_more c.args.seat c.loop.main c.turned-back.result.0 c.loop.invariant.marks (rw c.in-Ok-false.is at c.turned-back.ensures.marks)

pub returns-in-Ok-false-clause-last : goal.returns-in-Ok-false-clause-last
returns-in-Ok-false-clause-last g c = record { before = c.loop.book; between = c.loop.main; last = rw (c.in-Ok-false.is, c.in-Ok-false.field-0-test) at c.turned-back.ensures.turn }

pub returns-in-Err-clause-last : goal.returns-in-Err-clause-last
returns-in-Err-clause-last g c = record { before = c.loop.book; between = c.loop.main; last = rw c.in-Err.is at c.turned-back.ensures.turn }

pub returns-in-Ok-false-clause-well : goal.returns-in-Ok-false-clause-well
returns-in-Ok-false-clause-well g c =
    one_more (g.B.Turns.takes g.R.Role.SIDE) c.args.book.now c.loop.book c.turned-back.new.self false c.loop.main c.turned-back.result.0
    c.loop.invariant.well (rw (c.in-Ok-false.is, c.in-Ok-false.field-0-test) at c.turned-back.ensures.turn)

pub returns-in-Err-clause-ended : goal.returns-in-Err-clause-ended
returns-in-Err-clause-ended g c =
    ended_by (g.B.Turns.takes g.R.Role.SIDE) c.args.book.now c.loop.book c.turned-back.new.self c.in-Err.fault c.loop.main c.turned-back.result.0
    c.loop.invariant.well (rw c.in-Err.is at c.turned-back.ensures.turn)

pub returns-in-Ok-false-clause-notes : goal.returns-in-Ok-false-clause-notes
returns-in-Ok-false-clause-notes g c = noted_more c.args.seat c.loop.main c.turned-back.result.0 c.loop.invariant.marks c.turned-back.ensures.notes

pub returns-in-Err-clause-notes : goal.returns-in-Err-clause-notes
returns-in-Err-clause-notes g c = noted_more c.args.seat c.loop.main c.turned-back.result.0 c.loop.invariant.marks c.turned-back.ensures.notes
