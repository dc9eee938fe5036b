use Rattle.gi_live.specs.Stretches.{pause}
use Rattle.gi_live.proofs.Goings.{new_room, not_opened, run_cut, run_left}
use Rattle.gi_live.proofs.living.stretch.Goals as goal

pub returns-in-Err-clause-some : goal.returns-in-Err-clause-some
returns-in-Err-clause-some g c = not_opened g.R.Role.SIDE (pause c.args.desk c.args.before) _ _ c.in-Err.fault c.in-Err.ensures.fault

pub returns-in-Err-end-clause-some : goal.returns-in-Err-end-clause-some
returns-in-Err-end-clause-some g c =
    run_cut g.R.Role.SIDE c.args.desk c.args.before c.in-Ok.opened.1 c.saved-saved.result _ _ _ c.run-seat.result.2 c.in-Err-end.fault c.in-Ok.ensures.seat
    c.saved-saved.ensures.value c.in-Err-end.is c.run-seat.ensures.some

pub returns-in-Err-settled-clause-some : goal.returns-in-Err-settled-clause-some
returns-in-Err-settled-clause-some g c =
    run_left g.R.Role.SIDE c.args.desk c.args.before c.in-Ok.opened.1 c.saved-saved.result _ _ _ _ c.run-seat.result.0 c.run-seat.result.1 c.run-seat.result.2 c.in-Ok-end.end
    c.in-Err-settled.fault c.in-Ok.ensures.seat c.saved-saved.ensures.value c.in-Ok-end.is c.run-seat.ensures.until c.in-Err-settled.ensures.fault

pub run-seat-requires-clause-begins : goal.run-seat-requires-clause-begins
run-seat-requires-clause-begins g c = new_room c.in-Ok.opened.1 c.in-Ok.ensures.seat
