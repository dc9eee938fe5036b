use Rattle.std.proofs.Common.{◌∙◌, sym}
use Rattle.gi_audit.proofs.SentLemmas.{none-sent, sent-frozen}
use Rattle.gi_audit.proofs.sending.sent_table.Goals as goal

pub returns-then-not-has_sent : goal.returns-then-not-has_sent
returns-then-not-has_sent g c = none-sent g.R.Role.SIDE c.args.desk.now c.args.id.now (sym c.has_sent.ensures ∙ c.if-not-has_sent.true)

pub returns : goal.returns
returns g c =
    c.frozen.ensures
    ∙ sent-frozen g.R.Role.SIDE c.args.desk.now c.args.id.now c.reveal_invariant.ensures.legal (sym c.has_sent.ensures ∙ c.if-not-has_sent.false)
