use Rattle.gi_script.proofs.NameLemmas.{finds_verb}
use Rattle.gi_script.proofs.TakeLemmas.{takes_next}
use Rattle.gi_script.specs.Grammar.{IsVerbWord}
use Rattle.gi_script.proofs.words.Words.verb.Goals as goal

pub returns : goal.returns
returns c =
    let word = c.in_ok-next.field-0.now in
    takes_next IsVerbWord c.args.self.now word c.next.new.self c.verb_named.result c.in_ok-next.ensures (finds_verb word c.verb_named.result c.verb_named.ensures)
