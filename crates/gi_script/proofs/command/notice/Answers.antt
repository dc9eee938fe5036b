use Rattle.std.proofs.Common.{[], ◌∷◌}
use Rattle.gi_script.proofs.command.notice.Goals as goal

pub returns-in_err-day : goal.returns-in_err-day
returns-in_err-day c =
    rw c.from_residual.ensures (λ x is. let are = is.are in c.in_err-day.ensures is.day (is.direction ∷ is.first ∷ is.last ∷ is.firm ∷ is.interruptible ∷ []) x.day (cc) is.is_day)

pub returns-in_err-direction : goal.returns-in_err-direction
returns-in_err-direction c =
    let e0 = c.in_ok-day.ensures.1 in
    rw c.from_residual-in_err-direction.ensures (λ x is. let are = is.are in c.in_err-direction.ensures is.direction (is.first ∷ is.last ∷ is.firm ∷ is.interruptible ∷ []) x.direction (cc) is.is_direction)

pub returns-in_err-first : goal.returns-in_err-first
returns-in_err-first c =
    let e0 = c.in_ok-day.ensures.1 in
    let e1 = c.in_ok-direction.ensures.1 in
    rw c.from_residual-in_err-first.ensures (λ x is. let are = is.are in c.in_err-first.ensures is.first (is.last ∷ is.firm ∷ is.interruptible ∷ []) x.first (cc) is.is_first)

pub returns-in_err-last : goal.returns-in_err-last
returns-in_err-last c =
    let e0 = c.in_ok-day.ensures.1 in
    let e1 = c.in_ok-direction.ensures.1 in
    let e2 = c.in_ok-first.ensures.1 in
    rw c.from_residual-in_err-last.ensures (λ x is. let are = is.are in c.in_err-last.ensures is.last (is.firm ∷ is.interruptible ∷ []) x.last (cc) is.is_last)

pub returns-in_err-firm : goal.returns-in_err-firm
returns-in_err-firm c =
    let e0 = c.in_ok-day.ensures.1 in
    let e1 = c.in_ok-direction.ensures.1 in
    let e2 = c.in_ok-first.ensures.1 in
    let e3 = c.in_ok-last.ensures.1 in
    rw c.from_residual-in_err-firm.ensures (λ x is. let are = is.are in c.in_err-firm.ensures is.firm (is.interruptible ∷ []) x.firm (cc) is.is_firm)

pub returns-in_err-interruptible : goal.returns-in_err-interruptible
returns-in_err-interruptible c =
    let e0 = c.in_ok-day.ensures.1 in
    let e1 = c.in_ok-direction.ensures.1 in
    let e2 = c.in_ok-first.ensures.1 in
    let e3 = c.in_ok-last.ensures.1 in
    let e4 = c.in_ok-firm.ensures.1 in
    rw c.from_residual-in_err-interruptible.ensures (λ x is. let are = is.are in c.in_err-interruptible.ensures is.interruptible ([]) x.interruptible (cc) is.is_interruptible)
