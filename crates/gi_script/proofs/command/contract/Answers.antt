use Rattle.std.proofs.Common.{[], ◌∷◌}
use Rattle.gi_script.proofs.command.contract.Goals as goal

pub returns-in_err-portfolio : goal.returns-in_err-portfolio
returns-in_err-portfolio c =
    rw c.from_residual.ensures (λ x is. let are = is.are in c.in_err-portfolio.ensures is.portfolio (is.day ∷ is.direction ∷ is.firm ∷ is.interruptible ∷ []) x.portfolio (cc) is.is_portfolio)

pub returns-in_err-day : goal.returns-in_err-day
returns-in_err-day c =
    let e0 = c.in_ok-portfolio.ensures.1 in
    rw c.from_residual-in_err-day.ensures (λ x is. let are = is.are in c.in_err-day.ensures is.day (is.direction ∷ is.firm ∷ is.interruptible ∷ []) x.day (cc) is.is_day)

pub returns-in_err-direction : goal.returns-in_err-direction
returns-in_err-direction c =
    let e0 = c.in_ok-portfolio.ensures.1 in
    let e1 = c.in_ok-day.ensures.1 in
    rw c.from_residual-in_err-direction.ensures (λ x is. let are = is.are in c.in_err-direction.ensures is.direction (is.firm ∷ is.interruptible ∷ []) x.direction (cc) is.is_direction)

pub returns-in_err-firm : goal.returns-in_err-firm
returns-in_err-firm c =
    let e0 = c.in_ok-portfolio.ensures.1 in
    let e1 = c.in_ok-day.ensures.1 in
    let e2 = c.in_ok-direction.ensures.1 in
    rw c.from_residual-in_err-firm.ensures (λ x is. let are = is.are in c.in_err-firm.ensures is.firm (is.interruptible ∷ []) x.firm (cc) is.is_firm)

pub returns-in_err-interruptible : goal.returns-in_err-interruptible
returns-in_err-interruptible c =
    let e0 = c.in_ok-portfolio.ensures.1 in
    let e1 = c.in_ok-day.ensures.1 in
    let e2 = c.in_ok-direction.ensures.1 in
    let e3 = c.in_ok-firm.ensures.1 in
    rw c.from_residual-in_err-interruptible.ensures (λ x is. let are = is.are in c.in_err-interruptible.ensures is.interruptible ([]) x.interruptible (cc) is.is_interruptible)
