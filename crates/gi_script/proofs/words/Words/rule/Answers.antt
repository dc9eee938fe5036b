use Rattle.gi_script.proofs.TakeLemmas.{takes_next}
use Rattle.gi_script.specs.Grammar.{IsRuleWord}
use Rattle.gi_script.proofs.words.Words.rule.Goals as goal

pub returns : goal.returns
returns c =
    let word = c.in_ok-next.field-0.now in
    takes_next IsRuleWord c.args.self.now word c.next.new.self c.rule_named.result c.in_ok-next.ensures c.rule_named.ensures
