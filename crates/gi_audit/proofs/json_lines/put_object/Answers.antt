use Rattle.gi_messages.proofs.WrittenTokens.{wrote, followed, ended}
use Rattle.gi_audit.specs.JsonLines.{place_object}
use Rattle.gi_audit.proofs.json_lines.put_object.Goals as goal

pub returns : goal.returns
unfolding place_object
returns c =
    let r = c.end_object.result in
    let out = c.end_object.new.self in
    followed r out _ (wrote c.in_ok-begin_object.ensures)
    (followed r out _ c.in_ok-put_direction.ensures
    (followed r out _ (rw c.hour_of.ensures at c.in_ok-put_number_or_null.ensures)
    (followed r out _ c.in_ok-put_code.ensures
    (followed r out _ c.in_ok-put_code-2.ensures
    (followed r out _ (rw c.met_of.ensures at c.in_ok-put_number_or_null-2.ensures)
    (followed r out _ (rw c.written_of.ensures at c.in_ok-put_number_or_null-3.ensures)
    (ended c.end_object.ensures)))))))
