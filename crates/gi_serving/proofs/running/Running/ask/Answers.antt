use Rattle.std.proofs.Common.{◌≡◌, ◌++◌, ◌∷◌, [], is_some, Option}
use Rattle.gi_serving.specs.Asking.{AsksLast}
use Rattle.gi_serving.specs.Words.{word_in}
use Rattle.gi_serving.specs.declared.word.Word.{Word}
use Rattle.gi_serving.proofs.Asked.{asked_last, both_known}
use Rattle.gi_serving.proofs.running.Running.ask.Goals as goal

pub returns-clause-asked : goal.returns-clause-asked
returns-clause-asked g c =
    let old = c.args.self.now.seats.items in
    let new = c.push_reserved.new.self.items in
    let others = c.pop.new.self.items in
    let main = c.unwrap-main.result in
    let answer = c.called-main.result.1 in
    let taken : old ≡ others ++ main ∷ [] = rw c.unwrap-main.ensures at c.pop.ensures.items in
    both_known c.word_of.result (λ (word : Option Word). is_some word ≡ is_some answer) (λ (word : Option Word). word ≡ word_in answer)
    (λ (word : Option Word). AsksLast g.R.Role.SIDE old c.args.call word new)
    (λ word some is. asked_last g.R.Role.SIDE old new others main c.called-main.result.0 c.args.call answer word taken c.push_reserved.ensures.items c.called-main.ensures.answered is some)
    c.word_of.ensures.told c.word_of.ensures.word
