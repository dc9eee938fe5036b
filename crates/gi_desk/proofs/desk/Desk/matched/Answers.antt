use Rattle.std.proofs.Common.{◌∙◌}
use Rattle.gi_desk.proofs.LettingOut.{is_matched}
use Rattle.gi_desk.proofs.desk.Desk.matched.Goals as goal

pub unreachable-requires : goal.unreachable-requires
unreachable-requires g c =
    let matched = is_matched g.R.Role.SIDE c.args.self.now.facts c.args.id.now c.requires.closed c.requires.met in
    c.in_default.not-Matched matched.0 (c.closed_state.ensures ∙ matched.1)
