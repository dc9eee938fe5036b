use Rattle.std.proofs.Common.{drop, arith}
use Rattle.std.proofs.lemmas.List.{drop_all}
use Rattle.gi_office.proofs.Sessions.{all-roomed}
use Rattle.gi_office.proofs.work.rooms_for.Goals as goal

pub returns : goal.returns
returns g c =
    let at = c.loop-session in
    let sessions = c.args.sessions.now in
    all-roomed sessions (drop at.session-index sessions) at.rooms.items (drop_all at.session-index sessions (omega (arith, c.loop-session-test.false))) at.invariant.rooms
