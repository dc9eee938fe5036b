use Rattle.gi_messages.proofs.WrittenTokens.{wrote, followed, ended}
use Rattle.gi_exports.specs.Json.{hour_data}
use Rattle.gi_exports.proofs.json_reports.put_hour.Goals as goal

pub returns : goal.returns
unfolding hour_data
returns c =
    let r = c.end_object.result in
    let out = c.end_object.new.self in
    followed r out _ (wrote c.in_ok-begin_object.ensures)
    (followed r out _ (rw c.from.ensures at c.in_ok-put_number.ensures)
    (followed r out _ c.in_ok-put_day.ensures
    (followed r out _ c.in_ok-put_direction.ensures
    (followed r out _ c.in_ok-put_whole.ensures
    (followed r out _ c.in_ok-put_code.ensures
    (followed r out _ c.in_ok-put_code-2.ensures
    (followed r out _ (rw c.value.ensures.value at c.in_ok-put_whole-2.ensures)
    (ended c.end_object.ensures))))))))
