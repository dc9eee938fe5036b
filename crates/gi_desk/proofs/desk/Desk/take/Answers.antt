use Rattle.std.proofs.Common.{◌≡◌, ◌+◌, ◌++◌, length, subst, ◌∷◌, [], List, None, Some, refl, sym, ap, ◌∙◌}
use Rattle.gi_messages.specs.declared.message.Nomint.{Nomint}
use Rattle.gi_desk.specs.Machine.{DeskState}
use Rattle.gi_facts.specs.declared.fact.Fact.{Fact}
use Rattle.gi_facts.specs.declared.fact.Fact.TheVariants.{Nominated}
use Rattle.gi_desk.proofs.CacheLaws.{kept-numbered, kept-other, running-taken}
use Rattle.gi_desk.proofs.TakingLaws.{Puts, legal-rising, takings-back, takings-taken}
use Rattle.gi_nominations.specs.declared.portfolio_day.PortfolioDay.{PortfolioDay}
use Rattle.gi_nominations.specs.Book.{DocumentStands, IsNewer, in_force}
use Rattle.gi_desk.specs.History.{documents_of}
use Rattle.gi_desk.specs.Caches.{HasInForce}
use Rattle.gi_desk.proofs.Legality.{recorded-newer}
use Rattle.gi_desk.proofs.desk.Desk.take.Goals as goal

pub take-requires : goal.take-requires
take-requires g c =
    let same : HasInForce c.self.inside.kept.book.documents (documents_of c.args.self.now.facts) =
    subst (λ (s : DeskState). HasInForce c.self.inside.kept.book.documents (documents_of s.facts)) c.self.view_is c.self.invariant.keeps.running.nominations in
    let newer = recorded-newer g.R.Role.SIDE c.args.self.now.point c.args.self.now.facts c.args.document c.requires.recorded in
    record { newer = subst (λ (d : Nomint). IsNewer c.self.inside.kept.book.documents d) (sym c.in-Ok.ensures) (λ held is. newer held (sym (same c.args.document.portfolio c.args.document.day) ∙ is)) }

pub invariant_of-self-2 : goal.invariant_of-self-2
invariant_of-self-2 g c =
    let side = g.R.Role.SIDE in
    let inside = c.self.inside in
    let fact : Fact = Nominated c.args.document in
    let view = sym c.self.view_is in
    let facts_is = ap (λ (s : DeskState). s.facts) view in
    let added : c.push_reserved.new.self.items ≡ inside.facts.items ++ fact ∷ [] =
    c.push_reserved.ensures.items ∙ ap (λ (facts : List Fact). facts ++ fact ∷ []) c.in-Ok-reserve.ensures.items in
    let number : c.next_number-number.result ≡ length inside.facts.items + 1 = c.next_number-number.ensures ∙ ap (λ (fs : List Fact). length fs + 1) facts_is in
    let newer = subst (λ (fs : List Fact). IsNewer (documents_of fs) c.args.document) facts_is (recorded-newer side c.args.self.now.point c.args.self.now.facts c.args.document c.requires.recorded) in
    let puts = subst (λ (key : PortfolioDay). Puts inside.kept.takings.entries c.insert.new.self.entries key (Some c.next_number-number.result)) c.of-key.ensures c.in-Ok-insert.ensures.updates.0 in
    kept-other side inside.point inside.facts.items inside.kept c.take.new.self inside.kept.contracts c.insert.new.self inside.saved c.args.self.now fact c.push_reserved.new.self.items
    c.self.invariant refl (ap (λ (s : DeskState). s.point) view) facts_is c.requires.recorded c.requires.room c.requires.fits added
    (running-taken inside.point inside.facts.items inside.kept.book c.take.new.self inside.kept.contracts c.args.document c.self.invariant.keeps.running c.take.ensures.point
    (subst (λ (d : Nomint). DocumentStands inside.kept.book.documents c.take.new.self.documents d) c.in-Ok.ensures c.in-Ok-take.ensures.stands))
    (takings-taken inside.facts.items c.args.document c.next_number-number.result inside.kept.takings.entries c.insert.new.self.entries (legal-rising side inside.point inside.facts.items c.self.invariant.keeps.stages.legal) newer
    c.self.invariant.keeps.numbers puts number)

pub invariant_of-self-in_default-take : goal.invariant_of-self-in_default-take
invariant_of-self-in_default-take g c =
    let side = g.R.Role.SIDE in
    let inside = c.self.inside in
    let document = c.args.document in
    let absent = sym (c.self.invariant.keeps.running.nominations document.portfolio document.day)
    ∙ subst (λ (d : Nomint). in_force d.portfolio d.day inside.kept.book.documents ≡ None) c.in-Ok.ensures c.in_default-take.ensures.absent in
    let puts = subst (λ (key : PortfolioDay). Puts inside.kept.takings.entries c.insert.new.self.entries key (Some c.next_number-number.result)) c.of-key.ensures c.in-Ok-insert.ensures.updates.0 in
    let removes = subst (λ (key : PortfolioDay). Puts c.insert.new.self.entries c.remove.new.self.entries key None) c.of-key.ensures c.remove.ensures.updates.0 in
    kept-numbered side inside.point inside.facts.items inside.kept inside.saved c.reserve.new.self.items c.take.new.self c.remove.new.self
    c.self.invariant c.in-Ok-reserve.ensures.items c.in_default-take.ensures.unchanged
    (takings-back inside.facts.items document c.next_number-number.result inside.kept.takings.entries c.insert.new.self.entries c.remove.new.self.entries absent c.self.invariant.keeps.numbers puts removes)
