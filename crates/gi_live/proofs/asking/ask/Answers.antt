use Rattle.std.proofs.Common.{◌≤◌, length, subst}
use Rattle.gi_live.proofs.Requests.{unread_is}
use Rattle.gi_live.proofs.asking.ask.Goals as goal

pub returns-in-Err-Unreadable-clause-came : goal.returns-in-Err-Unreadable-clause-came
returns-in-Err-Unreadable-clause-came g c =
    unread_is g.R.Role.SIDE c.args.seat c.args.line.now c.as_slice-bytes.result.now c.in-Some.text.now c.in-Err-Unreadable.field-0 c.no_call.result
    (subst (λ given. length given ≤ 16_777_472) c.as_slice-bytes.ensures c.if-bytes-gt-MOST_LINE.false) c.as_slice-bytes.ensures c.in-Some.ensures.ended
    c.in-Err-Unreadable.field-0-is c.in-Err-Unreadable.ensures.read c.no_call.ensures
