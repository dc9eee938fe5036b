use Rattle.std.proofs.Common.{◌∷◌, ap, sym, ◌∙◌, List, ℕ}
use Rattle.gi_script.specs.Words.{words_of}
use Rattle.gi_script.proofs.OneRequest.{only-asked, request_read}
use Rattle.gi_script.proofs.request.read_request.Goals as goal

pub returns-clause-only : goal.returns-clause-only
returns-clause-only c =
    let line = c.args.line.now in
    let rest = c.verb.new.self in
    let text = c.in-Ok.ensures.cases in
    let begins = sym (ap words_of text.0) ∙ sym c.of-words.ensures ∙ c.in-Some.ensures.1 ∙ ap (λ (word : List ℕ). word ∷ rest) c.in-Some.ensures.2 in
    only-asked line c.call.result (request_read line c.in-Some.verb rest c.call.result text.1 begins c.call.ensures)
