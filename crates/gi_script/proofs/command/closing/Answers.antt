use Rattle.std.proofs.Common.{◌∷◌}
use Rattle.gi_script.proofs.command.closing.Goals as goal

pub returns-in_err-day : goal.returns-in_err-day
returns-in_err-day c =
    rw c.from_residual.ensures (λ x is. let are = is.are in c.in_err-day.ensures is.day (is.cycle ∷ is.others) x.0.day (cc) is.is_day)

pub returns-in_err-cycle : goal.returns-in_err-cycle
returns-in_err-cycle c =
    let e0 = c.in_ok-day.ensures.1 in
    rw c.from_residual-in_err-cycle.ensures (λ x is. let are = is.are in c.in_err-cycle.ensures is.cycle is.others x.0.cycle (cc) is.is_cycle)
