use Rattle.std.proofs.Common.{Some, None, sym, ap, ◌∙◌}
use Rattle.std.specs.Option.{option_copied}
use Rattle.gi_desk.proofs.Told.{found_met, none_met}
use Rattle.gi_desk.proofs.desk.Desk.met_saved.Goals as goal

pub returns-then-lacks_saved_meeting : goal.returns-then-lacks_saved_meeting
returns-then-lacks_saved_meeting g c = sym (none_met g.R.Role.SIDE c.args.self.now c.args.id.now c.if-lacks_saved_meeting.ensures)

pub returns-in_err-find : goal.returns-in_err-find
returns-in_err-find g c =
    let side = g.R.Role.SIDE in
    let s = c.args.self.now in
    ap option_copied c.from_residual.ensures
    ∙ found_met side s c.args.id.now None c.reveal_invariant.ensures.legal c.if-lacks_saved_meeting.ensures c.in_err-find.ensures

pub returns : goal.returns
returns g c =
    let side = g.R.Role.SIDE in
    let s = c.args.self.now in
    c.matched_in.ensures
    ∙ found_met side s c.args.id.now (Some c.in_ok-find.field-0.now) c.reveal_invariant.ensures.legal c.if-lacks_saved_meeting.ensures c.in_ok-find.ensures
