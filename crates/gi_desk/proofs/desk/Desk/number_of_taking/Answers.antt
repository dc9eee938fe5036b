use Rattle.std.proofs.Common.{Option, Bor, ℕ, sym, ap, ◌∙◌, subst}
use Rattle.std.specs.Option.{option_copied}
use Rattle.std.proofs.lemmas.Option.{none-some, same_Some}
use Rattle.gi_nominations.specs.declared.portfolio_day.PortfolioDay.{PortfolioDay}
use Rattle.gi_desk.specs.Machine.{DeskState}
use Rattle.gi_desk.specs.Takings.{AreTakings, taking_in}
use Rattle.gi_desk.proofs.TakingLaws.{repeat-read}
use Rattle.gi_desk.proofs.desk.Desk.number_of_taking.Goals as goal

pub unreachable-requires : goal.unreachable-requires
unreachable-requires g c =
    let s = c.args.self.now in
    let document = c.args.document.now in
    let entries = c.self.inside.kept.takings.entries in
    let numbers = subst (λ (d : DeskState). AreTakings d.facts entries) c.self.view_is c.self.invariant.keeps.numbers in
    let none = ap (λ (o : Option (Bor ℕ)). option_copied o) (sym c.in_default.is) ∙ c.get.ensures.value ∙ ap (λ (key : PortfolioDay). taking_in entries key) c.of.ensures in
    none-some _ (none ∙ repeat-read s.point s.facts document entries numbers c.requires)

pub returns : goal.returns
returns g c =
    let s = c.args.self.now in
    let document = c.args.document.now in
    let entries = c.self.inside.kept.takings.entries in
    let numbers = subst (λ (d : DeskState). AreTakings d.facts entries) c.self.view_is c.self.invariant.keeps.numbers in
    let found = ap (λ (o : Option (Bor ℕ)). option_copied o) (sym c.in-Some.is) ∙ c.get.ensures.value ∙ ap (λ (key : PortfolioDay). taking_in entries key) c.of.ensures in
    same_Some _ _ (found ∙ repeat-read s.point s.facts document entries numbers c.requires)
