use Rattle.std.proofs.Common.{subst, sym}
use Rattle.std.proofs.lemmas.Result.{IfErr-weaker, IfOk-weaker}
use Rattle.gi_live.specs.Due.{AreDue}
use Rattle.gi_live.specs.Stretches.{EndsLife}
use Rattle.gi_live.proofs.Dues.{closed, from_new, not_opened, not_resumed, not_settled}
use Rattle.gi_live.proofs.living.close_due.Goals as goal

pub returns-in-Err-clause-leaves : goal.returns-in-Err-clause-leaves
returns-in-Err-clause-leaves g c = not_opened g.R.Role.SIDE c.args.desk c.args.before c.args.moment _ c.in-Err.fault c.in-Err.ensures.fault

pub returns-in-Err-settled-clause-leaves : goal.returns-in-Err-settled-clause-leaves
returns-in-Err-settled-clause-leaves g c =
    let due = subst (λ ids. AreDue c.args.desk.facts c.args.moment ids) (sym c.deref.ensures.value) c.in-Ok.ensures in
    let writes = from_new g.R.Role.SIDE c.args.desk c.in-Ok-opened.opened.1 c.saved-saved.result _ c.deref.result.now _ _ c.close_cycles-seat.result.0 c.in-Ok-opened.ensures.seat
    c.saved-saved.ensures.value (rw c.in_default-end.is at c.close_cycles-seat.ensures.closes) in
    not_settled g.R.Role.SIDE c.args.desk c.args.before c.args.moment c.deref.result.now _ _ c.close_cycles-seat.result.0 c.in-Err-settled.fault due writes c.in-Err-settled.ensures.fault

pub returns-in-Ok-settled-clause-leaves : goal.returns-in-Ok-settled-clause-leaves
returns-in-Ok-settled-clause-leaves g c =
    let due = subst (λ ids. AreDue c.args.desk.facts c.args.moment ids) (sym c.deref.ensures.value) c.in-Ok.ensures in
    let writes = from_new g.R.Role.SIDE c.args.desk c.in-Ok-opened.opened.1 c.saved-saved.result _ c.deref.result.now _ _ c.close_cycles-seat.result.0 c.in-Ok-opened.ensures.seat
    c.saved-saved.ensures.value (rw c.in_default-end.is at c.close_cycles-seat.ensures.closes) in
    IfErr-weaker c.resumed.result _ _
    (λ fault is. not_resumed g.R.Role.SIDE c.args.desk c.args.before c.args.moment c.deref.result.now _ _ c.close_cycles-seat.result.0 fault due writes is.0)
    c.resumed.ensures.fault

pub returns-in-Ok-settled-clause-closed : goal.returns-in-Ok-settled-clause-closed
returns-in-Ok-settled-clause-closed g c =
    let due = subst (λ ids. AreDue c.args.desk.facts c.args.moment ids) (sym c.deref.ensures.value) c.in-Ok.ensures in
    let writes = from_new g.R.Role.SIDE c.args.desk c.in-Ok-opened.opened.1 c.saved-saved.result _ c.deref.result.now _ _ c.close_cycles-seat.result.0 c.in-Ok-opened.ensures.seat
    c.saved-saved.ensures.value (rw c.in_default-end.is at c.close_cycles-seat.ensures.closes) in
    IfOk-weaker c.resumed.result _ _
    (λ new is. closed g.R.Role.SIDE c.args.desk c.args.before c.args.moment c.deref.result.now _ _ c.close_cycles-seat.result.0 new due writes
    (subst (EndsLife g.R.Role.SIDE c.close_cycles-seat.result.0) (sym is.0) c.in-Ok-settled.ensures.life))
    c.resumed.ensures.desk
