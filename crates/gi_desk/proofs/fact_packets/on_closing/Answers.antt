use Rattle.std.proofs.Common.{◌≡◌, true, subst, sym}
use Rattle.gi_cycles.specs.declared.cycle_state.CycleState.{CycleState}
use Rattle.gi_desk.specs.LetOut.{frozen_of, let_out_on_closing}
use Rattle.gi_desk.specs.Machine.{some_leave}
use Rattle.gi_desk.specs.Messages.{on_closed}
use Rattle.gi_desk.proofs.Called.{if_failed}
use Rattle.gi_desk.proofs.PartsOfTables.{leaves-some}
use Rattle.gi_desk.proofs.fact_packets.on_closing.Goals as goal

pub returns-in_err-messages-in-Frozen-clause-short : goal.returns-in_err-messages-in-Frozen-clause-short
returns-in_err-messages-in-Frozen-clause-short g c =
    let side = g.R.Role.SIDE in
    let some = leaves-some (on_closed side c.args.point c.in-Frozen.cycle) c.in_err-messages-in-Frozen.ensures.short in
    if_failed c.from_residual.result (subst (λ (state : CycleState). some_leave (let_out_on_closing side c.args.point state) ≡ true) (sym c.in-Frozen.is) some)

pub returns-in_err-messages-in-Matched-clause-short : goal.returns-in_err-messages-in-Matched-clause-short
returns-in_err-messages-in-Matched-clause-short g c =
    let side = g.R.Role.SIDE in
    let some = leaves-some (on_closed side c.args.point (frozen_of c.in-Matched.cycle)) c.in_err-messages-in-Matched.ensures.short in
    if_failed c.from_residual-in_err-messages-in-Matched.result
    (subst (λ (state : CycleState). some_leave (let_out_on_closing side c.args.point state) ≡ true) (sym c.in-Matched.is) some)
