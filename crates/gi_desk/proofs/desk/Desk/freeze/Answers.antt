use Rattle.std.proofs.Common.{◌≡◌, ◌+◌, ◌++◌, ◌∷◌, [], sym, ap, ◌∙◌, subst, List, length}
use Rattle.gi_pairs.specs.Table.{TableContents}
use Rattle.gi_processing.specs.Processing.{HasFewOfEach, processed as processed_of}
use Rattle.gi_desk.specs.History.{capacity_of, documents_of}
use Rattle.gi_desk.specs.Machine.{DeskState}
use Rattle.gi_facts.specs.Writable.{FitsProcessed}
use Rattle.gi_facts.specs.declared.fact.Fact.{Fact}
use Rattle.gi_facts.specs.declared.fact.Fact.TheVariants.{Closed}
use Rattle.gi_desk.proofs.CacheLaws.{kept-closed, kept-legal, recorded-cycle}
use Rattle.gi_desk.proofs.desk.Desk.freeze.Goals as goal

pub processed-requires : goal.processed-requires
processed-requires g c = recorded-cycle g.R.Role.SIDE c.args.self.now c.args.id.now c.args.rule c.requires.recorded

pub invariant_of-self-2 : goal.invariant_of-self-2
invariant_of-self-2 g c =
    let side = g.R.Role.SIDE in
    let inside = c.self.inside in
    let id = c.args.id.now in
    let view = sym c.self.view_is in
    let facts_is = ap (λ (s : DeskState). s.facts) view in
    let legal = kept-legal side inside.point inside.facts.items c.args.self.now (Closed id c.args.rule) c.self.invariant.keeps.stages.legal
    (ap (λ (s : DeskState). s.point) view) facts_is c.requires.recorded c.requires.room in
    let facts : c.push_reserved.new.self.items ≡ inside.facts.items ++ Closed id c.args.rule ∷ [] =
    c.push_reserved.ensures.items ∙ ap (λ (fs : List Fact). fs ++ Closed id c.args.rule ∷ []) c.in-Ok.ensures.items in
    let own = c.in_ok-own.ensures.value ∙ ap (λ (fs : List Fact). processed_of (capacity_of fs) (documents_of fs) side id.day id.cycle c.args.rule) facts_is in
    let number : c.next_number-number.result ≡ length inside.facts.items + 1 = c.next_number-number.ensures ∙ ap (λ (fs : List Fact). length fs + 1) facts_is in
    kept-closed side inside.point inside.facts.items inside.kept inside.saved id c.args.rule c.push_reserved.new.self.items c.close.new.stages
    c.self.invariant c.requires.fits (subst (λ (t : TableContents). FitsProcessed t) own (record { table = c.in_ok-own.ensures.table; few = c.in_ok-own.ensures.few }))
    (subst (HasFewOfEach side) own c.in_ok-own.ensures.few_of_each) facts
    (c.in_ok-close.ensures.closed side inside.point inside.facts.items c.args.rule c.self.invariant.keeps.stages legal own number)
