use Rattle.std.proofs.Common.{Bool, OnOk, Result, sym, subst}
use Rattle.gi_office.specs.declared.save_fault.SaveFault.{SaveFault}
use Rattle.gi_serving.specs.Asking.{NotesMarks}
use Rattle.gi_serving.proofs.Noting.{turn_notes}
use Rattle.gi_serving.proofs.Places.{turned}
use Rattle.gi_serving.proofs.Turning.{turn_marks}
use Rattle.gi_serving.proofs.turns.BookStoreTurns.turned.Goals as goal

pub returns-clause-place : goal.returns-clause-place
returns-clause-place g c = turned g.R.Role.SIDE _ _ _ c.args.seat c.save_turn-seat.result.1 c.save_turn-seat.result.0 c.save_turn-seat.ensures

pub returns-clause-marks : goal.returns-clause-marks
returns-clause-marks g c =
    subst (λ (r : Result Bool SaveFault). OnOk r (NotesMarks c.args.seat c.save_turn-seat.result.0)) (sym c.saved.ensures.value)
    (turn_marks g.R.Role.SIDE _ _ _ c.args.seat c.save_turn-seat.result.1 c.save_turn-seat.result.0 c.save_turn-seat.ensures)

pub returns-clause-turn : goal.returns-clause-turn
returns-clause-turn g c = record { turn = c.save_turn-seat.result.1; took = c.save_turn-seat.ensures; told_is = c.saved.ensures.value }

pub returns-clause-notes : goal.returns-clause-notes
returns-clause-notes g c = turn_notes g.R.Role.SIDE _ _ _ c.args.seat c.save_turn-seat.result.1 c.save_turn-seat.result.0 c.save_turn-seat.ensures
