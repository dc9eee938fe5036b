use Rattle.std.proofs.Common.{◌∙◌, sym}
use Rattle.std.proofs.lemmas.List.{length-map}
use Rattle.gi_page.proofs.page.hour_count.Goals as goal

pub returns-clause-value : goal.returns-clause-value
returns-clause-value c = sym (length-map c.args.books.now (λ hour. hour.at))
