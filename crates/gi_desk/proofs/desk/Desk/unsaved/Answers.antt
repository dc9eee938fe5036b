use Rattle.std.proofs.Common.{arith, ◌≡◌, ◌+◌, ℕ, List, length, All, Some, refl, sym, ap, ◌∙◌, subst}
use Rattle.std.specs.Prelude.{slice_get}
use Rattle.std.proofs.lemmas.Option.{slice_get_read}
use Rattle.gi_desk.specs.Machine.{DeskState}
use Rattle.gi_desk.specs.Queries.{unsaved}
use Rattle.gi_facts.specs.Writable.{FitsFact}
use Rattle.gi_facts.specs.declared.fact.Fact.{Fact}
use Rattle.gi_desk.proofs.Fitting.{writable_at}
use Rattle.gi_desk.proofs.Legality.{legal-few}
use Rattle.gi_desk.proofs.desk.Desk.unsaved.Goals as goal

pub overflow_add-result : goal.overflow_add-result
overflow_add-result g c = omega (arith, legal-few g.R.Role.SIDE c.self.inside.point c.self.inside.facts.items c.self.invariant.keeps.stages.legal)

next_is : (s : DeskState) (items : List Fact) (saved : ℕ) (fact : Fact) → s.facts ≡ items → s.saved ≡ saved → slice_get items saved ≡ Some fact → Some (saved + 1, fact) ≡ unsaved s
next_is s items saved fact all many found = rw (all, many, found) refl

pub returns-clause-value : goal.returns-clause-value
returns-clause-value g c =
    let read = c.in_ok-fact.ensures.lookup in
    let items = c.deref.result.now in
    let found = slice_get_read items (length items) c.self.inside.saved c.in_ok-fact.fact.now refl read.3.0 read.1 in
    next_is c.args.self.now items c.self.inside.saved c.in_ok-fact.fact.now (ap (λ (s : DeskState). s.facts) (sym c.self.view_is) ∙ sym c.deref.ensures.value)
    (ap (λ (s : DeskState). s.saved) (sym c.self.view_is)) found

pub returns-clause-writable : goal.returns-clause-writable
returns-clause-writable g c =
    let read = c.in_ok-fact.ensures.lookup in
    let items = c.deref.result.now in
    let found = slice_get_read items (length items) c.self.inside.saved c.in_ok-fact.fact.now refl read.3.0 read.1 in
    writable_at items c.self.inside.saved c.in_ok-fact.fact.now (subst (λ (facts : List Fact). All FitsFact facts) (sym c.deref.ensures.value) c.self.invariant.fits.facts) found
