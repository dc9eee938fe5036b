use Rattle.gi_facts.specs.Writing.{closing_data}
use Rattle.gi_facts.proofs.WritingLemmas.{rule_ended}
use Rattle.gi_messages.proofs.WrittenTokens.{wrote, followed, ended}
use Rattle.gi_facts.proofs.encoding.put_closing.Goals as goal

pub returns : goal.returns
unfolding closing_data
returns c =
    let r = c.end_object.result in
    let out = c.end_object.new.self in
    followed r out _ (wrote c.in_ok-begin_object.ensures)
    (followed r out _ (rw c.from.ensures at c.in_ok-put_number.ensures)
    (followed r out _ c.in_ok-put_day.ensures
    (followed r out _ (rw c.text.ensures at c.in_ok-put_text.ensures)
    (rule_ended _ _ c.args.rule r out c.in_ok-put_rule.ensures (ended c.end_object.ensures)))))
