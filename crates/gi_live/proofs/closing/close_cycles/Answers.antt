use Rattle.std.proofs.Common.{subst, IfErr, IfOk}
use Rattle.gi_live.specs.Closing.{CloseDue}
use Rattle.gi_live.specs.Coming.{IsAskingFault}
use Rattle.gi_live.proofs.Closings.{leaves_closings, none_closed, writes_closings}
use Rattle.gi_live.proofs.closing.close_cycles.Goals as goal

pub returns-in-Ok-clause-closes : goal.returns-in-Ok-clause-closes
returns-in-Ok-clause-closes g c =
    let side = g.R.Role.SIDE in
    let closed = subst (λ result. IfOk result (λ cames. CloseDue side c.args.seat c.args.ids.now cames.items c.close_all-seat.result.0)) c.in-Ok.is c.close_all-seat.ensures.came in
    let told = c.save_and_tell-seat.ensures in
    writes_closings side c.args.seat c.args.saved c.args.line c.args.ids.now c.in-Ok.cames.items c.close_all-seat.result.0 c.save_and_tell-seat.result.0 c.save_and_tell-seat.result.1 _ _
    c.save_and_tell-seat.result.2 closed told.saved told.marks told.answered told.written

pub returns-in-Ok-clause-leaves : goal.returns-in-Ok-clause-leaves
returns-in-Ok-clause-leaves g c =
    let side = g.R.Role.SIDE in
    let closed = subst (λ result. IfOk result (λ cames. CloseDue side c.args.seat c.args.ids.now cames.items c.close_all-seat.result.0)) c.in-Ok.is c.close_all-seat.ensures.came in
    let told = c.save_and_tell-seat.ensures in
    leaves_closings side c.args.seat c.args.saved c.args.line c.args.ids.now c.in-Ok.cames.items c.close_all-seat.result.0 c.save_and_tell-seat.result.0 c.save_and_tell-seat.result.1 _ _
    c.save_and_tell-seat.result.2 closed told.notes told.saved told.leaves

pub returns-in-Err-clause-leaves : goal.returns-in-Err-clause-leaves
returns-in-Err-clause-leaves g c =
    none_closed g.R.Role.SIDE c.args.seat c.args.saved c.args.line c.args.ids.now _ c.in-Err.fault (subst (λ result. IfErr result IsAskingFault) c.in-Err.is c.close_all-seat.ensures.fault)
