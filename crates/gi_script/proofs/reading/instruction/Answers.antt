use Rattle.std.proofs.Common.{◌∷◌, ap, sym, ◌∙◌, List, ℕ}
use Rattle.gi_script.specs.Words.{words_of}
use Rattle.gi_script.proofs.TakeLemmas.{plan_spelled, command_spelled}
use Rattle.gi_script.proofs.reading.instruction.Goals as goal

pub returns-in-Some-plan : goal.returns-in-Some-plan
returns-in-Some-plan c =
    let text = c.in-Ok.ensures.cases in
    let words = sym (ap words_of text.0) ∙ sym c.of-words.ensures in
    let begins = words ∙ c.in-Some-plan.ensures ∙ ap (λ (word : List ℕ). word ∷ c.next.new.self) c.in-Some-plan.is-plan in
    plan_spelled c.args.line.now c.next.new.self c.plan_line.result text.1 begins c.plan_line.ensures

pub returns-in-Some : goal.returns-in-Some
returns-in-Some c =
    let text = c.in-Ok.ensures.cases in
    let begins = sym (ap words_of text.0) ∙ sym c.of-words.ensures ∙ c.in-Some.ensures in
    command_spelled c.args.line.now c.in-Some.first.now c.next.new.self c.side_command.result text.1 begins c.in-Some.not-plan c.side_command.ensures
