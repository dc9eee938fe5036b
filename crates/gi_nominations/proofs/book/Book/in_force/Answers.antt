use Rattle.std.proofs.Common.{◌≡◌, ◌∙◌, ap, sym, subst, true, All, arith}
use Rattle.std.proofs.lemmas.List.Elements.{All-from_recursion, All-weaker}
use Rattle.gi_messages.specs.declared.message.Nomint.{Nomint}
use Rattle.gi_nominations.specs.Book.{Documents, in_force, is_of, IsUpTo}
use Rattle.gi_nominations.specs.declared.portfolio_day.PortfolioDay.{PortfolioDay}
use Rattle.gi_nominations.proofs.FiledLaws.{looked_up, sole}
use Rattle.gi_nominations.proofs.book.Book.in_force.Goals as goal

pub returns-clause-value : goal.returns-clause-value
returns-clause-value c =
    let key : PortfolioDay = record { portfolio = c.args.portfolio; day = c.args.day } in
    let found = looked_up key c.self.inside.documents.entries c.self.invariant in
    let seen = ap (λ (book : Documents). in_force c.args.portfolio c.args.day book.documents) c.self.view_is in
    cc

pub returns-clause-sole : goal.returns-clause-sole
returns-clause-sole c held e =
    let key : PortfolioDay = record { portfolio = c.args.portfolio; day = c.args.day } in
    let here = ap (λ (book : Documents). in_force c.args.portfolio c.args.day book.documents) c.self.view_is ∙ sym (returns-clause-value c) ∙ e in
    subst (λ (book : Documents). All (λ document. is_of c.args.portfolio c.args.day document ≡ true → document ≡ held) book.documents) c.self.view_is
    (All-from_recursion (λ document. is_of c.args.portfolio c.args.day document ≡ true → document ≡ held) _ (sole key c.self.inside.documents.entries held c.self.invariant here))

pub returns-clause-highest : goal.returns-clause-highest
returns-clause-highest c held e =
    let at_most : (document : Nomint) → (is_of c.args.portfolio c.args.day document ≡ true → document ≡ held) → IsUpTo c.args.portfolio c.args.day held document =
    λ document same of. let version = ap (λ (x : Nomint). x.version) (same of) in omega (arith, version) in
    All-weaker (λ document. is_of c.args.portfolio c.args.day document ≡ true → document ≡ held) (IsUpTo c.args.portfolio c.args.day held) at_most c.args.self.now.documents (returns-clause-sole c held e)
