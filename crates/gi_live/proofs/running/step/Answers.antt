use Rattle.std.proofs.Common.{arith, subst, IfErr, IfOk}
use Rattle.gi_live.specs.Coming.{ComeAll, IsAskingFault}
use Rattle.gi_live.proofs.Comings.{asking_leaves, come_length, leaves_all, steps_some}
use Rattle.gi_live.proofs.running.step.Goals as goal

pub save_and_tell-requires : goal.save_and_tell-requires
save_and_tell-requires g c =
    let came = subst (λ result. IfOk result (λ cames. ComeAll g.R.Role.SIDE c.args.seat c.args.lines.now cames.items c.ask_all-seat.result.0)) c.in-Ok.is c.ask_all-seat.ensures.came in
    let same = come_length g.R.Role.SIDE c.args.seat c.args.lines.now c.in-Ok.cames.items c.ask_all-seat.result.0 came in
    omega (arith, same, c.requires)

pub returns-in-Ok-clause-leaves : goal.returns-in-Ok-clause-leaves
returns-in-Ok-clause-leaves g c =
    let side = g.R.Role.SIDE in
    let came = subst (λ result. IfOk result (λ cames. ComeAll side c.args.seat c.args.lines.now cames.items c.ask_all-seat.result.0)) c.in-Ok.is c.ask_all-seat.ensures.came in
    leaves_all side _ c.args.lines.now _ _ _ c.save_and_tell.result.2
    (steps_some side c.args.seat c.args.saved c.args.before c.args.lines.now c.in-Ok.cames.items c.ask_all-seat.result.0 c.save_and_tell.result.0 c.save_and_tell.result.1 came c.save_and_tell.ensures.notes c.save_and_tell.ensures.saved)
    c.save_and_tell.ensures.leaves

pub returns-in-Err-clause-leaves : goal.returns-in-Err-clause-leaves
returns-in-Err-clause-leaves g c =
    asking_leaves g.R.Role.SIDE _ c.args.lines.now _ c.in-Err.fault (subst (λ result. IfErr result IsAskingFault) c.in-Err.is c.ask_all-seat.ensures.fault)
