use Rattle.std.proofs.Common.{◌∙◌, sym}
use Rattle.gi_audit.proofs.SentLemmas.{by-meeting-at}
use Rattle.gi_audit.proofs.sending.has_sent.Goals as goal

pub returns-in-M : goal.returns-in-M
returns-in-M g c =
    c.is_some-in-M.ensures
    ∙ by-meeting-at g.R.Role.SIDE c.args.desk.now c.args.id.now c.confirmed.result (sym c.in-M.is ∙ c.SIDE.ensures) c.confirmed.ensures
