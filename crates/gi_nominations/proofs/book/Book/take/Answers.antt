use Rattle.std.proofs.Common.{◌≡◌, ◌∙◌, ap, subst, ℕ, List, None, Result, Ok, Err, OnErr}
use Rattle.std.specs.BTreeMap.{values}
use Rattle.std.specs.Map.{values_of}
use Rattle.gi_messages.specs.declared.message.Nomint.{Nomint}
use Rattle.gi_nominations.specs.Book.{Documents, DocumentStands, in_force}
use Rattle.gi_nominations.specs.declared.portfolio_day.PortfolioDay.{PortfolioDay}
use Rattle.gi_nominations.proofs.BookLaws.{stands-held, stands-others}
use Rattle.gi_nominations.proofs.FiledLaws.{filed_inserted, none_before, stands}
use Rattle.gi_nominations.proofs.book.Book.take.Goals as goal

pub invariant_of-self-2 : goal.invariant_of-self-2
invariant_of-self-2 c =
    filed_inserted c.self.inside.documents.entries c.insert.new.self.entries c.of.result c.args.nomint c.of.ensures c.self.invariant c.in_ok-insert.ensures.entries c.in_ok-insert.ensures.ordered

pub returns-clause-stands : goal.returns-clause-stands
returns-clause-stands c =
    subst (λ (book : Documents). DocumentStands book.documents (values c.insert.new.self) c.args.nomint) c.self.view_is
    (stands c.self.inside.documents.entries c.insert.new.self.entries c.of.result c.args.nomint c.of.ensures c.self.invariant c.in_ok-insert.ensures.entries c.in_ok-insert.ensures.ordered c.in_ok-insert.ensures.updates.0)

pub returns-clause-held : goal.returns-clause-held
returns-clause-held c = stands-held c.args.self.now.documents (values c.insert.new.self) c.args.nomint (returns-clause-stands c)

pub returns-clause-others : goal.returns-clause-others
returns-clause-others c = stands-others c.args.self.now.documents (values c.insert.new.self) c.args.nomint (returns-clause-stands c)

on_err : {T E P : Type 0} (r : Result T E) → P → OnErr r P
on_err (Ok x) p = tt
on_err (Err e) p = p

pub returns-in_err-insert-clause-absent : goal.returns-in_err-insert-clause-absent
returns-in_err-insert-clause-absent c =
    let n = c.args.nomint in
    on_err _
    (subst (λ (book : Documents). in_force n.portfolio n.day book.documents ≡ None) c.self.view_is
    (none_before c.self.inside.documents.entries c.of.result n c.of.ensures c.self.invariant c.in_err-insert.ensures.absent))

abbrev documents_of : List ℕ → List (PortfolioDay × Nomint) → Documents
documents_of point entries = record { point = point; documents = values_of entries }

pub returns-in_err-insert-clause-unchanged : goal.returns-in_err-insert-clause-unchanged
returns-in_err-insert-clause-unchanged c = on_err _ (ap (documents_of c.self.inside.point) c.in_err-insert.ensures.err ∙ c.self.view_is)

pub returns-in_err-insert-clause-point : goal.returns-in_err-insert-clause-point
returns-in_err-insert-clause-point c = ap (λ (book : Documents). book.point) c.self.view_is

pub returns-clause-point : goal.returns-clause-point
returns-clause-point c = ap (λ (book : Documents). book.point) c.self.view_is
