use Rattle.gi_facts.specs.Writing.{nomination_data}
use Rattle.gi_messages.proofs.WrittenTokens.{wrote, followed, ended}
use Rattle.gi_facts.proofs.encoding.put_nomination.Goals as goal

pub returns : goal.returns
unfolding nomination_data
returns c =
    let r = c.end_object.result in
    let out = c.end_object.new.self in
    followed r out _ (wrote c.in_ok-begin_object.ensures)
    (followed r out _ (rw c.text.ensures at c.in_ok-put_text.ensures)
    (followed r out _ (wrote c.in_ok-put_key.ensures)
    (followed r out _ c.in_ok-put_nomint.ensures
    (ended c.end_object.ensures))))
