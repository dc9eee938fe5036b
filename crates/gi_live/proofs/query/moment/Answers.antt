use Rattle.std.proofs.Common.{◌≡◌, subst}
use Rattle.gi_moments.specs.Moment.{IsMomentText}
use Rattle.gi_live.proofs.query.moment.Goals as goal

pub returns-in_err-moment : goal.returns-in_err-moment
returns-in_err-moment c =
    rw c.from_residual-in_err-moment.ensures (λ x is.
    let are = is.are in
    let next = c.in_ok-next.ensures in
    let same : is.word ≡ c.in_ok-next.field-0.now = cc in
    c.in_err-moment.ensures x (subst (λ w. IsMomentText w x) same is.is_moment))
