use Rattle.gi_messages.proofs.WrittenTokens.{wrote, followed, ended}
use Rattle.gi_changes.specs.Forms.{change_data}
use Rattle.gi_changes.proofs.json_changes.put_change.Goals as goal

pub returns : goal.returns
unfolding change_data
returns c =
    let r = c.end_object.result in
    let out = c.end_object.new.self in
    followed r out _ (wrote c.in_ok-begin_object.ensures)
    (followed r out _ c.in_ok-put_whole.ensures
    (followed r out _ c.in_ok-put_whole-2.ensures
    (followed r out _ c.in_ok-put_signed.ensures
    (followed r out _ (rw c.from.ensures at c.in_ok-put_number.ensures)
    (followed r out _ c.in_ok-put_day.ensures
    (followed r out _ c.in_ok-put_direction.ensures
    (followed r out _ (rw c.from-2.ensures at c.in_ok-put_whole-3.ensures)
    (followed r out _ c.in_ok-put_code.ensures
    (followed r out _ c.in_ok-put_code-2.ensures
    (ended c.end_object.ensures))))))))))
