use Rattle.std.proofs.Common.{ap, subst, sym, ◌∙◌}
use Rattle.gi_pairs.specs.Table.{TableContents}
use Rattle.gi_parts.specs.Parts.{IsSent}
use Rattle.gi_desk.proofs.Gatherings.{whole-fits}
use Rattle.gi_initiator.proofs.response.take_response.Goals as goal

pub confirms-requires-clause-peer : goal.confirms-requires-clause-peer
confirms-requires-clause-peer c =
    let part = c.of_response-part.result in
    let sent = subst IsSent (sym c.of_response-part.ensures) c.requires in
    (whole-fits c.id.result c.args.kept.now part c.in-Complete.whole sent c.in-Complete.ensures).few

pub confirms-requires-clause-hours : goal.confirms-requires-clause-hours
confirms-requires-clause-hours c =
    let part = c.of_response-part.result in
    let sent = subst IsSent (sym c.of_response-part.ensures) c.requires in
    let whole = (whole-fits c.id.result c.args.kept.now part c.in-Complete.whole sent c.in-Complete.ensures).hours in
    let own = c.own-in-Complete.ensures.value ∙ sym c.own.ensures.value in
    let hours = c.covers_same_hours.ensures.shape.0 c.if-covers_same_hours.true in
    record {
      first = ap (λ (table : TableContents). table.first) own ∙ hours.first ∙ whole.first;
      last = ap (λ (table : TableContents). table.last) own ∙ hours.last ∙ whole.last;
    }
