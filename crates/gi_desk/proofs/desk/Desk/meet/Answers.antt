use Rattle.std.proofs.Common.{◌≡◌, ◌+◌, ◌++◌, ◌∷◌, [], None, length, sym, ap, subst, ◌∙◌}
use Rattle.gi_pairs.specs.Table.{TableContents}
use Rattle.gi_desk.specs.Machine.{DeskState, bad_fact}
use Rattle.gi_desk.specs.Stages.{AreStages}
use Rattle.gi_facts.specs.declared.fact.Fact.{Fact}
use Rattle.gi_facts.specs.declared.fact.Fact.TheVariants.{Met}
use Rattle.gi_desk.proofs.CacheLaws.{kept-legal, kept-met}
use Rattle.gi_desk.proofs.desk.Desk.meet.Goals as goal

pub meet-requires : goal.meet-requires
meet-requires g c =
    let side = g.R.Role.SIDE in
    let inside = c.self.inside in
    let view = sym c.self.view_is in
    let legal = kept-legal side inside.point inside.facts.items c.args.self.now (Met c.args.id.now c.args.peer) c.self.invariant.keeps.stages.legal
    (ap (λ (s : DeskState). s.point) view) (ap (λ (s : DeskState). s.facts) view) c.requires.recorded c.requires.room in
    let shared = subst (λ (peer : TableContents). bad_fact side inside.point (inside.facts.items ++ Met c.args.id.now peer ∷ []) ≡ None) (sym c.in_ok-peer.ensures) legal in
    (side, inside.point, inside.facts.items, c.self.invariant.keeps.stages, shared)

pub invariant_of-self-2 : goal.invariant_of-self-2
invariant_of-self-2 g c =
    let side = g.R.Role.SIDE in
    let inside = c.self.inside in
    let fact : Fact = Met c.args.id.now c.args.peer in
    let view = sym c.self.view_is in
    let facts_is = ap (λ (s : DeskState). s.facts) view in
    let legal = kept-legal side inside.point inside.facts.items c.args.self.now fact c.self.invariant.keeps.stages.legal
    (ap (λ (s : DeskState). s.point) view) facts_is c.requires.recorded c.requires.room in
    let facts : c.push_reserved.new.self.items ≡ inside.facts.items ++ fact ∷ [] =
    c.push_reserved.ensures.items ∙ (λ t. c.in-Ok-reserve.ensures.items t ++ Met c.args.id.now ((c.in-Ok.ensures ∙ c.in_ok-peer.ensures) t) ∷ []) in
    let number : c.next_number-number.result ≡ length inside.facts.items + 1 = c.next_number-number.ensures ∙ ap (λ (s : DeskState). length s.facts + 1) view in
    let shared = subst (λ (peer : TableContents). bad_fact side inside.point (inside.facts.items ++ Met c.args.id.now peer ∷ []) ≡ None) (sym c.in_ok-peer.ensures) legal in
    let met = subst (λ (peer : TableContents). AreStages side inside.point (inside.facts.items ++ Met c.args.id.now peer ∷ []) c.meet.new.stages.entries) c.in_ok-peer.ensures
    (c.in-Ok-meet.ensures.met side inside.point inside.facts.items c.self.invariant.keeps.stages shared number) in
    kept-met side inside.point inside.facts.items inside.kept inside.saved c.args.id.now c.args.peer c.push_reserved.new.self.items c.meet.new.stages
    c.self.invariant c.requires.fits facts met
