use Rattle.std.proofs.Common.{◌∙◌, List, ap}
use Rattle.std.proofs.lemmas.Result.{IfOk-weaker}
use Rattle.gi_nominations.specs.Book.{in_force}
use Rattle.gi_facts.specs.declared.fact.Fact.{Fact}
use Rattle.gi_desk.specs.History.{documents_of}
use Rattle.gi_page.proofs.day_book.cycle_book.Goals as goal

pub returns : goal.returns
returns g c =
    IfOk-weaker c.day_book.result _ _ (λ book is. λ portfolio. is portfolio ∙ ap (λ (fs : List Fact). in_force portfolio c.args.id.now.day (documents_of fs)) c.count_before.ensures.value)
    c.day_book.ensures
