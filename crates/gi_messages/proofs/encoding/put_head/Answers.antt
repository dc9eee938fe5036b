use Rattle.gi_messages.proofs.WrittenTokens.{followed}
use Rattle.gi_messages.proofs.encoding.put_head.Goals as goal

pub returns : goal.returns
returns c =
    let r = c.put_number-3.result in
    let out = c.put_number-3.new.out in
    followed r out _ (rw c.from.ensures at c.in_ok-put_number.ensures)
    (followed r out _ c.in_ok-put_day.ensures
    (followed r out _ (rw c.from-2.ensures at c.in_ok-put_number-2.ensures)
    (followed r out _ (rw c.text.ensures at c.in_ok-put_text.ensures)
    (rw c.from-3.ensures at c.put_number-3.ensures))))
