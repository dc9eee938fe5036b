use Rattle.std.proofs.Common.{[], ◌∷◌}
use Rattle.gi_live.proofs.query.quantity.Goals as goal

pub returns-in_err-initiating : goal.returns-in_err-initiating
returns-in_err-initiating c =
    rw c.from_residual.ensures (λ x is. let are = is.are in c.in_err-initiating.ensures is.initiating (is.matching ∷ is.direction ∷ is.day ∷ is.cycle ∷ is.hour ∷ []) x.pair.initiating (cc) is.is_initiating)

pub returns-in_err-matching : goal.returns-in_err-matching
returns-in_err-matching c =
    let e0 = c.in_ok-initiating.ensures.1 in
    rw c.from_residual-in_err-matching.ensures (λ x is. let are = is.are in c.in_err-matching.ensures is.matching (is.direction ∷ is.day ∷ is.cycle ∷ is.hour ∷ []) x.pair.matching (cc) is.is_matching)

pub returns-in_err-direction : goal.returns-in_err-direction
returns-in_err-direction c =
    let e0 = c.in_ok-initiating.ensures.1 in
    let e1 = c.in_ok-matching.ensures.1 in
    rw c.from_residual-in_err-direction.ensures (λ x is. let are = is.are in c.in_err-direction.ensures is.direction (is.day ∷ is.cycle ∷ is.hour ∷ []) x.direction (cc) is.is_direction)

pub returns-in_err-day : goal.returns-in_err-day
returns-in_err-day c =
    let e0 = c.in_ok-initiating.ensures.1 in
    let e1 = c.in_ok-matching.ensures.1 in
    let e2 = c.in_ok-direction.ensures.1 in
    rw c.from_residual-in_err-day.ensures (λ x is. let are = is.are in c.in_err-day.ensures is.day (is.cycle ∷ is.hour ∷ []) x.id.day (cc) is.is_day)

pub returns-in_err-cycle : goal.returns-in_err-cycle
returns-in_err-cycle c =
    let e0 = c.in_ok-initiating.ensures.1 in
    let e1 = c.in_ok-matching.ensures.1 in
    let e2 = c.in_ok-direction.ensures.1 in
    let e3 = c.in_ok-day.ensures.1 in
    rw c.from_residual-in_err-cycle.ensures (λ x is. let are = is.are in c.in_err-cycle.ensures is.cycle (is.hour ∷ []) x.id.cycle (cc) is.is_cycle)

pub returns-in_err-hour : goal.returns-in_err-hour
returns-in_err-hour c =
    let e0 = c.in_ok-initiating.ensures.1 in
    let e1 = c.in_ok-matching.ensures.1 in
    let e2 = c.in_ok-direction.ensures.1 in
    let e3 = c.in_ok-day.ensures.1 in
    let e4 = c.in_ok-cycle.ensures.1 in
    rw c.from_residual-in_err-hour.ensures (λ x is. let are = is.are in c.in_err-hour.ensures is.hour ([]) x.hour (cc) is.is_hour)
