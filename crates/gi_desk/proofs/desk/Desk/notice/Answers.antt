use Rattle.std.proofs.Common.{◌≡◌, ◌++◌, ◌∷◌, [], List, refl, sym, ap, ◌∙◌}
use Rattle.gi_desk.specs.Machine.{DeskState}
use Rattle.gi_facts.specs.declared.fact.Fact.{Fact}
use Rattle.gi_facts.specs.declared.fact.Fact.TheVariants.{Noticed}
use Rattle.gi_desk.proofs.CacheLaws.{kept-other, running-notice, takings-same}
use Rattle.gi_desk.proofs.Legality.{recorded-notice}
use Rattle.gi_desk.proofs.desk.Desk.notice.Goals as goal

pub record_notice-requires : goal.record_notice-requires
record_notice-requires g c = recorded-notice g.R.Role.SIDE c.args.self.now.point c.args.self.now.facts c.args.notice.now c.requires.recorded

pub invariant_of-self-2 : goal.invariant_of-self-2
invariant_of-self-2 g c =
    let side = g.R.Role.SIDE in
    let inside = c.self.inside in
    let fact : Fact = Noticed c.args.notice.now in
    let view = sym c.self.view_is in
    let added : c.push_reserved.new.self.items ≡ inside.facts.items ++ fact ∷ [] =
    c.push_reserved.ensures.items ∙ ap (λ (facts : List Fact). facts ++ fact ∷ []) c.in_ok-reserve.ensures.items in
    kept-other side inside.point inside.facts.items inside.kept inside.kept.book c.record_notice.new.contracts inside.kept.takings inside.saved c.args.self.now fact c.push_reserved.new.self.items
    c.self.invariant refl (ap (λ (s : DeskState). s.point) view) (ap (λ (s : DeskState). s.facts) view) c.requires.recorded c.requires.room c.requires.fits added
    (running-notice inside.point inside.facts.items inside.kept.book inside.kept.contracts c.record_notice.new.contracts c.args.notice.now c.self.invariant.keeps.running c.in_ok-record_notice.ensures.added)
    (takings-same side inside.point inside.facts.items fact inside.kept.takings.entries (λ document e. absurd cc) c.self.invariant.keeps.stages.legal c.self.invariant.keeps.numbers)
