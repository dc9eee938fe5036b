use Rattle.std.proofs.Common.{◌≡◌, [], rules}
use Rattle.gi_live.proofs.Queried.{from_day, no_day}
use Rattle.gi_live.proofs.query.narrowing.Goals as goal

pub returns-in_err-day : goal.returns-in_err-day
returns-in_err-day c =
    let some : ¬ (c.args.words ≡ []) = λ is. search (rules, is, c.is_empty.ensures, c.if-is_empty.false, c.if-is_empty.ensures) in
    rw c.from_residual.ensures (no_day c.args.words some c.in_err-day.ensures)

pub returns : goal.returns
returns c =
    from_day c.args.words c.day.new.self c.in_ok-day.ensures.0 c.in_ok-day.day c.in_ok-portfolio.portfolio c.in_ok-day.ensures.1 c.in_ok-day.ensures.2 c.in_ok-portfolio.ensures
