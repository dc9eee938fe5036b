use Rattle.gi_messages.specs.Writing.{delord_data}
use Rattle.gi_messages.proofs.WrittenTokens.{wrote, followed, ended, with_part}
use Rattle.gi_messages.proofs.encoding.put_delord.Goals as goal

pub returns : goal.returns
unfolding delord_data
returns c =
    let r = c.end_object.result in
    let out = c.end_object.new.self in
    followed r out _ (wrote c.in_ok-begin_object.ensures)
    (followed r out _ (rw (c.first.ensures, c.last.ensures.value) at c.in_ok-put_head.ensures)
    (with_part r out _ _ _ c.in_ok-put_part.ensures
    (followed r out _ c.in_ok-put_code.ensures
    (followed r out _ (rw c.rows.ensures.rows at c.in_ok-put_rows.ensures)
    (ended c.end_object.ensures)))))
