use Rattle.std.proofs.Common.{ℕ, None, Some, Option, Bor, ap, refl, ◌∙◌}
use Rattle.std.specs.Prelude.{option_map}
use Rattle.gi_pairs.specs.Table.{TableContents}
use Rattle.gi_desk.specs.History.{is_meeting, number_of}
use Rattle.gi_desk.proofs.Confirmed.{meeting-read, peer-read}
use Rattle.gi_desk.proofs.desk.Desk.meeting.Goals as goal

abbrev seen : Option (ℕ × Bor TableContents) → Option (ℕ × TableContents)
seen = option_map (λ (it : ℕ × Bor TableContents). (it.0, it.1.now))

pub returns-in_err-find : goal.returns-in_err-find
returns-in_err-find g c =
    let facts = c.args.self.now.facts in
    let none = peer-read g.R.Role.SIDE c.args.self.now.point facts c.args.id None c.reveal_invariant.ensures.legal c.in_err-find.ensures in
    ap seen c.from_residual.ensures ∙ meeting-read facts c.args.id (number_of (is_meeting c.args.id) facts) None refl none

pub returns-in_err-peer : goal.returns-in_err-peer
returns-in_err-peer g c =
    let facts = c.args.self.now.facts in
    let none = c.in_err-peer.ensures ∙ peer-read g.R.Role.SIDE c.args.self.now.point facts c.args.id (Some c.in_ok-find.field-0.now) c.reveal_invariant.ensures.legal c.in_ok-find.ensures in
    ap seen c.from_residual-in_err-peer.ensures ∙ meeting-read facts c.args.id (number_of (is_meeting c.args.id) facts) None refl none

pub returns : goal.returns
returns g c =
    let facts = c.args.self.now.facts in
    let some = c.in_ok-peer.ensures ∙ peer-read g.R.Role.SIDE c.args.self.now.point facts c.args.id (Some c.in_ok-find.field-0.now) c.reveal_invariant.ensures.legal c.in_ok-find.ensures in
    meeting-read facts c.args.id c.number_of_meeting.result (Some c.in_ok-peer.peer.now) c.number_of_meeting.ensures some
