use Rattle.std.proofs.Common.{arith, ◌≡◌, ◌≤◌, ◌-◌, ℕ, zero, suc, List, length, All, Some, refl, sym, ap, ◌∙◌, subst}
use Rattle.std.specs.Prelude.{slice_get}
use Rattle.std.proofs.lemmas.Option.{slice_get_read}
use Rattle.gi_facts.specs.Writable.{FitsFact}
use Rattle.gi_facts.specs.declared.fact.Fact.{Fact}
use Rattle.gi_desk.specs.Machine.{DeskState}
use Rattle.gi_desk.specs.Queries.{fact_at}
use Rattle.gi_desk.proofs.Fitting.{writable_at}
use Rattle.gi_desk.proofs.desk.Desk.fact.Goals as goal

pub returns-clause-writable : goal.returns-clause-writable
returns-clause-writable g c =
    let read = c.in_ok-fact.ensures.lookup in
    let items = c.deref.result.now in
    let found = slice_get_read items (length items) c.in_ok-before.before c.in_ok-fact.fact.now refl read.3.0 read.1 in
    writable_at items c.in_ok-before.before c.in_ok-fact.fact.now (subst (λ (facts : List Fact). All FitsFact facts) (sym c.deref.ensures.value) c.self.invariant.fits.facts) found

numbered : (facts : List Fact) (n before : ℕ) (fact : Fact) → 1 ≤ n → before ≡ n - 1 → slice_get facts before ≡ Some fact → Some fact ≡ fact_at facts n
numbered facts zero before fact from is found = absurd (omega (arith, from))
numbered facts (suc b) before fact from is found = let same : before ≡ b = omega (arith, is) in sym found ∙ ap (slice_get facts) same

pub returns-clause-value : goal.returns-clause-value
returns-clause-value g c =
    let read = c.in_ok-fact.ensures.lookup in
    let items = c.deref.result.now in
    let found = slice_get_read items (length items) c.in_ok-before.before c.in_ok-fact.fact.now refl read.3.0 read.1 in
    numbered items c.args.n c.in_ok-before.before c.in_ok-fact.fact.now c.in_ok-before.ensures.0 c.in_ok-before.ensures.1 found
    ∙ ap (λ (facts : List Fact). fact_at facts c.args.n) (c.deref.ensures.value ∙ ap (λ (s : DeskState). s.facts) c.self.view_is)
