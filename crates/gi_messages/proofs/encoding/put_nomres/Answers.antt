use Rattle.gi_messages.specs.Writing.{nomres_data}
use Rattle.gi_messages.proofs.WrittenTokens.{wrote, followed, ended}
use Rattle.gi_messages.proofs.encoding.put_nomres.Goals as goal

pub returns : goal.returns
unfolding nomres_data
returns c =
    let r = c.end_object.result in
    let out = c.end_object.new.self in
    followed r out _ (wrote c.in_ok-begin_object.ensures)
    (followed r out _ c.in_ok-put_head.ensures
    (followed r out _ (rw c.as_slice.ensures at c.in_ok-put_lines.ensures)
    (followed r out _ c.in_ok-put_code.ensures
    (followed r out _ c.in_ok-put_code-2.ensures
    (ended c.end_object.ensures)))))
