use Rattle.std.proofs.Common.{◌≡◌, ◌∙◌, Option, ap, sym, subst}
use Rattle.std.specs.Borrow.{Bor}
use Rattle.std.specs.Option.{option_copied}
use Rattle.gi_processing.specs.Capacity.{Capacity}
use Rattle.gi_processing.specs.HoursLeft.{IsLeft}
use Rattle.gi_processing.specs.Kept.{left_in}
use Rattle.gi_processing.specs.declared.hours_left.HoursLeft.{HoursLeft}
use Rattle.gi_processing.specs.declared.hours_left.Thousandths.{Thousandths}
use Rattle.gi_processing.proofs.KeptLaws.{notice-found}
use Rattle.gi_processing.proofs.contracts.Contracts.left.Goals as goal

row-is : (c : goal.After-at) → c.at.result ≡ left_in (option_copied c.get.result) c.args.hour
row-is c = c.at.ensures ∙ ap (λ (o : Option (Bor HoursLeft)). left_in (option_copied o) c.args.hour) (sym c.in-Some.is)

pub returns-in-Some-clause-value : goal.returns-in-Some-clause-value
returns-in-Some-clause-value c =
    row-is c
    ∙ notice-found c.args.day c.args.direction c.args.hour c.self.inside.notices c.args.self.now c.get.result c.self.invariant.ordered (ap (λ (v : Capacity). v.notices) c.self.view_is) c.get.ensures.value

pub returns-in-Some-clause-in_range : goal.returns-in-Some-clause-in_range
returns-in-Some-clause-in_range c =
    let is = row-is c ∙ ap (λ (o : Option HoursLeft). left_in o c.args.hour) c.get.ensures.value in
    subst (λ (l : Thousandths). IsLeft l) (sym is) (c.self.invariant.left c.args.day c.args.direction c.args.hour)

pub returns-in-None-clause-value : goal.returns-in-None-clause-value
returns-in-None-clause-value c =
    ap (λ (o : Option (Bor HoursLeft)). left_in (option_copied o) c.args.hour) (sym c.in-None.is)
    ∙ notice-found c.args.day c.args.direction c.args.hour c.self.inside.notices c.args.self.now c.get.result c.self.invariant.ordered (ap (λ (v : Capacity). v.notices) c.self.view_is) c.get.ensures.value
