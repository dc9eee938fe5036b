use Rattle.std.proofs.Common.{List, inr, subst}
use Rattle.gi_facts.specs.declared.fact.Fact.{Fact}
use Rattle.gi_office.specs.Saving.{Saves}
use Rattle.gi_office.proofs.office.Office.save.Goals as goal

pub returns : goal.returns
returns g c =
    inr (subst (λ (fs : List Fact). Saves g.R.Role.SIDE g.S.Store c.args.book.now c.save_front.new.book c.args.n fs c.args.seat.now c.save_front.result c.save_front.new.seat)
    c.into_vec-facts.ensures c.save_front.ensures)
