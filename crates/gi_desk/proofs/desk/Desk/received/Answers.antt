use Rattle.std.proofs.Common.{Ok, ap, subst, sym, ◌∙◌}
use Rattle.std.specs.Prelude.{option_map}
use Rattle.gi_messages.specs.declared.message.Message.{Message}
use Rattle.gi_desk.specs.Deciding.{IsReceivable}
use Rattle.gi_desk.specs.Judging.{delivered}
use Rattle.gi_desk.proofs.Called.{delivered-from, delivered-unaddressed, received-is}
use Rattle.gi_desk.proofs.desk.Desk.received.Goals as goal

pub addressed-requires : goal.addressed-requires
addressed-requires g c =
    let is = received-is g.R.Role.SIDE c.args.message _ (sym (ap (option_map g.R.Role.as_message) c.in-Some.is) ∙ c.received.ensures) in
    subst (λ (m : Message). IsReceivable m) (sym is) c.requires

pub returns-in-Some : goal.returns-in-Some
returns-in-Some g c =
    let side = g.R.Role.SIDE in
    let is = received-is side c.args.message _ (sym (ap (option_map g.R.Role.as_message) c.in-Some.is) ∙ c.received.ensures) in
    delivered-from c.addressed.result _ _ c.addressed.ensures (ap (λ (m : Message). delivered side c.args.self.now.point c.args.self.now.facts c.args.self.now.kept (Ok m)) is)

pub returns-in-None : goal.returns-in-None
returns-in-None g c =
    delivered-unaddressed g.R.Role.SIDE c.args.self.now.point c.args.self.now.facts c.args.self.now.kept c.args.message (sym (ap (option_map g.R.Role.as_message) c.in-None.is) ∙ c.received.ensures)
