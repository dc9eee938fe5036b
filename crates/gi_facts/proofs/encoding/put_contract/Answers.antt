use Rattle.gi_facts.specs.Writing.{contract_data}
use Rattle.gi_messages.proofs.WrittenTokens.{wrote, followed, ended}
use Rattle.gi_facts.proofs.encoding.put_contract.Goals as goal

pub returns : goal.returns
unfolding contract_data
returns c =
    let r = c.end_object.result in
    let out = c.end_object.new.self in
    followed r out _ (wrote c.in_ok-begin_object.ensures)
    (followed r out _ c.in_ok-put_day.ensures
    (followed r out _ c.in_ok-put_direction.ensures
    (followed r out _ (rw c.text.ensures at c.in_ok-put_text.ensures)
    (followed r out _ (rw c.value.ensures.value at c.in_ok-put_number.ensures)
    (followed r out _ (rw c.value-2.ensures.value at c.in_ok-put_number-2.ensures)
    (followed r out _ c.in_ok-put_code.ensures
    (ended c.end_object.ensures)))))))
